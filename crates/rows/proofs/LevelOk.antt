-- What a level asks for, read off the array of positions.
use Rattle.std.proofs.Common.{◌≡◌, ℕ, zero, suc, ◌+◌, ◌-◌, ◌<◌, ◌≤◌, Bool, true, false, ◌&&◌, eqb, List, [], ◌∷◌, length, get_or, take, drop, sym, refl, ap, ◌∙◌, ap₂, add-one, arith, length-drop, get_or-drop}
use Rattle.std.proofs.lemmas.Bool.{eq-eqb, ne_eqb}
use Rattle.std.proofs.lemmas.List.{get_or-take}
use Rattle.std.proofs.Math.Bool.{and-false}
use Rattle.timeline.specs.declared.events.Event.{Event}
use Rattle.timeline.specs.Lists.{pick, each}
use Rattle.timeline.specs.Order.{nothing, nth}
use Rattle.patterns.specs.Kept.{kept_step, kept_count, kept_pattern}
use Rattle.patterns.proofs.Steps.{steps_long}
use Rattle.rows.specs.Held.{Along}
use Rattle.rows.specs.Search.{chosen, forward}
use Rattle.rows.specs.Finding.{fits, row_ok, row_lo, row_hi}
use Rattle.rows.proofs.Chosen.{chosen_forward, length_chosen}
use Rattle.rows.proofs.Steps.{kept_at}

drop_take : (at : List ℕ) (d : ℕ) → drop 1 (take (suc d) at) ≡ take d (drop 1 at)
drop_take [] zero = refl
drop_take [] (suc d) = refl
drop_take (x ∷ xs) d = refl

-- WHERE A LEVEL BEGINS AND ENDS
hi_some : (upto : ℕ) (at : List ℕ) (d : ℕ) → suc d ≤ length at → get_or at 0 0 ≡ row_hi upto (chosen at (suc d))
unfolding row_hi chosen
hi_some upto at d l = let e : forward (get_or at d 0 ∷ chosen at d) ≡ take (suc d) at = chosen_forward at (suc d) l in rw e (sym (get_or-take (suc d) at 0 0 (omega arith)))

pub hi_none : (upto : ℕ) (at : List ℕ) (d : ℕ) → d ≡ 0 → upto ≡ row_hi upto (chosen at d)
unfolding row_hi chosen
hi_none upto at d e = rw e refl

pub hi_deep : (upto : ℕ) (at : List ℕ) (d : ℕ) → (d ≡ 0 → ⊥) → d ≤ length at → get_or at 0 0 ≡ row_hi upto (chosen at d)
hi_deep upto at zero n l = absurd (n refl)
hi_deep upto at (suc d) n l = hi_some upto at d l

pub lo_more : (at : List ℕ) (d : ℕ) → 2 ≤ d → get_or at (d - 1) 0 + 1 ≡ row_lo (chosen at d)
unfolding row_lo chosen
lo_more at zero l = absurd (omega arith)
lo_more at (suc zero) l = absurd (omega arith)
lo_more at (suc (suc d)) l = let e : suc (suc d) - 1 ≡ suc d = omega arith in rw e (add-one (get_or at (suc d) 0))

pub hi_small : (upto : ℕ) (at : List ℕ) (d : ℕ) → d ≤ length at → ((j : ℕ) → j < d → get_or at j 0 < upto) → row_hi upto (chosen at d) ≤ upto
unfolding row_hi chosen
hi_small upto at zero l h = omega arith
hi_small upto at (suc d) l h = omega (arith, hi_some upto at d l, h 0 (omega arith))

-- EVENTS AT POSITIONS: those of the steps before, without the last event
take_each : (h : List Event) (xs : List ℕ) (es : List Event) (m : ℕ) → m ≤ length xs → m ≤ length es → ((j : ℕ) → j < m → get_or es j nothing ≡ nth h (get_or xs j 0)) → take m es ≡ each (nth h) (take m xs)
unfolding each
take_each h xs es zero l k f = refl
take_each h [] es (suc m) l k f = absurd (omega arith)
take_each h (x ∷ xs) [] (suc m) l k f = absurd (omega arith)
take_each h (x ∷ xs) (e ∷ es) (suc m) l k f = ap₂ (λ y ys. y ∷ ys) (f 0 (omega arith)) (take_each h xs es m (omega arith) (omega arith) (λ j q. f (suc j) (omega arith)))

pub along_stands : (h : List Event) (at : List ℕ) (row : List Event) (d m : ℕ) → length at ≡ 6 → length row ≡ 6 → Along h at row d → m + 1 ≤ d → d ≤ 6
    → take m (drop 1 row) ≡ each (nth h) (take m (drop 1 at))
along_stands h at row d m la lr a l k =
    take_each h (drop 1 at) (drop 1 row) m (omega (arith, length-drop 1 at)) (omega (arith, length-drop 1 row))
    (λ j q. get_or-drop 1 row j nothing ∙ a.are (1 + j) (omega arith) ∙ ap (nth h) (sym (get_or-drop 1 at j 0)))

-- those of the steps before one, as the code takes them
pub earlier_stand : (h : List Event) (at : List ℕ) (row : List Event) (d m : ℕ) → length at ≡ 6 → length row ≡ 6 → Along h at row (d + 1) → m ≤ d → d < 6
    → take (m + 1 - 1) (drop 1 row) ≡ each (nth h) (take m (drop 1 at))
earlier_stand h at row d m la lr a l k = let q : m + 1 - 1 ≡ m = omega arith in rw q (along_stands h at row (d + 1) m la lr a (omega arith) (omega arith))

-- WHICH POSITIONS: by the depth, for a kept pattern
module _ (h : List Event) (c at : List ℕ) where
  abbrev w : ℕ
  w = (kept_pattern c).within

  abbrev ok_at : ℕ → Bool
  ok_at d = row_ok h w (kept_pattern c).steps (chosen at d) (get_or at d 0)

  pub ok_one : (d : ℕ) → d ≡ 0 → kept_count c ≡ 1 → ok_at d ≡ fits h w (kept_step c 0) [] (get_or at 0 0)
  unfolding row_ok chosen
  ok_one d e f =
      let a = kept_at c 0 (omega arith) in
      let b : eqb (length (kept_pattern c).steps) 1 ≡ true = eq-eqb _ _ (steps_long c ∙ f) in
      rw (e, b, a) refl

  pub ok_last : (d : ℕ) → d ≡ 0 → 1 ≤ kept_count c → (kept_count c ≡ 1 → ⊥) → ok_at d ≡ eqb (nth h (get_or at 0 0)).kind (kept_step c (kept_count c - 1)).kind
  unfolding row_ok chosen
  ok_last d e o f =
      let n = steps_long c in
      let a = kept_at c (kept_count c - 1) (omega arith) in
      let b : eqb (length (kept_pattern c).steps) 1 ≡ false = rw n (ne_eqb _ _ f) in
      rw (e, b, n, a) refl

  ok_level : (d : ℕ) → suc d < kept_count c → suc d < length at → ok_at (suc d)
      ≡ (fits h w (kept_step c d) (take d (drop 1 at)) (get_or at (suc d) 0)
      && pick (eqb (d + 2) (kept_count c)) (fits h w (kept_step c (kept_count c - 1)) (take (suc d) (drop 1 at)) (get_or at 0 0)) true)
  unfolding row_ok chosen
  ok_level d q l =
      let e : forward (get_or at d 0 ∷ chosen at d) ≡ take (suc d) at = chosen_forward at (suc d) (omega arith) in
      let f : forward (get_or at (suc d) 0 ∷ get_or at d 0 ∷ chosen at d) ≡ take (suc (suc d)) at = chosen_forward at (suc (suc d)) (omega arith) in
      rw (e, f, length_chosen at d, steps_long c, kept_at c d (omega arith), kept_at c (kept_count c - 1) (omega arith), drop_take at d, drop_take at (suc d), get_or-take (suc d) at 0 0 (omega arith)) refl

  -- at a depth that isn't 0: its own step is not met
  pub ok_not : (d : ℕ) → (d ≡ 0 → ⊥) → d < kept_count c → d < length at → false ≡ fits h w (kept_step c (d - 1)) (take (d - 1) (drop 1 at)) (get_or at d 0) → false ≡ ok_at d
  ok_not zero z q l e = absurd (z refl)
  ok_not (suc d) z q l e = let p : suc d - 1 ≡ d = omega arith in let f = rw p at e in sym (ok_level d q l ∙ rw (← f) refl)

  -- it is met, and more levels are behind it
  pub ok_mid : (d : ℕ) → (d ≡ 0 → ⊥) → d < kept_count c → d < length at → true ≡ fits h w (kept_step c (d - 1)) (take (d - 1) (drop 1 at)) (get_or at d 0) → (d + 1 ≡ kept_count c → ⊥) → true ≡ ok_at d
  ok_mid zero z q l e n = absurd (z refl)
  ok_mid (suc d) z q l e n =
      let p : suc d - 1 ≡ d = omega arith in
      let f = rw p at e in
      let t : eqb (d + 2) (kept_count c) ≡ false = ne_eqb _ _ (λ x. n (omega arith)) in
      sym (ok_level d q l ∙ rw (← f, t) refl)

  -- it is met, and it is the last level: all is up to the last event
  pub ok_end : (d : ℕ) → (d ≡ 0 → ⊥) → d < kept_count c → d < length at → true ≡ fits h w (kept_step c (d - 1)) (take (d - 1) (drop 1 at)) (get_or at d 0) → d + 1 ≡ kept_count c
      → fits h w (kept_step c d) (take d (drop 1 at)) (get_or at 0 0) ≡ ok_at d
  ok_end zero z q l e n = absurd (z refl)
  ok_end (suc d) z q l e n =
      let p : suc d - 1 ≡ d = omega arith in
      let f = rw p at e in
      let t : eqb (d + 2) (kept_count c) ≡ true = eq-eqb _ _ (omega arith) in
      let k : kept_count c - 1 ≡ suc d = omega arith in
      sym (ok_level d q l ∙ rw (← f, t, k) refl)

  -- it is the last level, and the last event doesn't fit behind it
  pub ok_last_not : (d : ℕ) → (d ≡ 0 → ⊥) → d < kept_count c → d < length at → d + 1 ≡ kept_count c → false ≡ fits h w (kept_step c d) (take d (drop 1 at)) (get_or at 0 0) → false ≡ ok_at d
  ok_last_not zero z q l n e = absurd (z refl)
  ok_last_not (suc d) z q l n e =
      let t : eqb (d + 2) (kept_count c) ≡ true = eq-eqb _ _ (omega arith) in
      let k : kept_count c - 1 ≡ suc d = omega arith in
      sym (ok_level d q l ∙ rw (t, k, ← e) (and-false (fits h w (kept_step c d) (take d (drop 1 at)) (get_or at (suc d) 0))))
