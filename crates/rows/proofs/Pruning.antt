-- Positions that lead nowhere: of another kind than the level's step, and those from which the last event is out of the window.
use Rattle.std.proofs.Common.{◌≡◌, ℕ, zero, suc, ◌+◌, ◌-◌, ◌<◌, ◌≤◌, Bool, true, false, eqb, leb, List, [], ◌∷◌, ◌++◌, length, get_or, drop, sym, refl, ap, ◌∙◌, arith}
use Rattle.std.proofs.Math.Bool.{and-false}
use Rattle.std.proofs.lemmas.List.{length_push, get_or_append_left}
use Rattle.std.proofs.lemmas.Bool.Decides.{nat_tests}
use Rattle.std.proofs.lemmas.Bool.{eq-eqb, ne_eqb, eqb-true}
use Rattle.timeline.specs.declared.events.Event.{Event}
use Rattle.timeline.specs.Lists.{those, flat, each, run, none_of}
use Rattle.timeline.specs.Order.{nth}
use Rattle.timeline.proofs.Lists.{all_any, those_none, clash}
use Rattle.patterns.specs.Patterns.{Step, Pattern, fits_step}
use Rattle.patterns.specs.Kept.{kept_step, kept_count, kept_pattern}
use Rattle.patterns.proofs.Steps.{steps_long}
use Rattle.rows.specs.Held.{level_step}
use Rattle.rows.specs.Search.{paths, Barren, chosen, forward}
use Rattle.rows.specs.Finding.{fits, step_of, row_ok, row_lo, row_hi, space}
use Rattle.rows.proofs.Chosen.{length_chosen}
use Rattle.rows.proofs.Steps.{kept_at}
use Rattle.rows.proofs.LevelOk.{lo_more}

module _ (h : List Event) (w : ℕ) (ss : List Step) where
  -- an event of another kind may not be chosen
  kind_not : (at : List ℕ) (d i : ℕ) → d < length ss → eqb (nth h i).kind (step_of ss (level_step (length ss) d)).kind ≡ false → row_ok h w ss (chosen at d) i ≡ false
  unfolding row_ok chosen fits
  kind_not at zero i l e = go (eqb (length ss) 1) refl
    where
      go : (b : Bool) → eqb (length ss) 1 ≡ b → row_ok h w ss [] i ≡ false
      go true q =
          let n = eqb-true (length ss) 1 q in
          let z : length ss - 1 ≡ 0 = omega arith in
          let f = rw z at e in
          rw (q, f) refl
      go false q = rw (q, e) refl
  kind_not at (suc d) i l e =
      let z : eqb (suc d) 0 ≡ false = ne_eqb (suc d) 0 (λ x. omega arith) in
      let m : level_step (length ss) (suc d) ≡ d = rw z (omega arith) in
      let f : eqb (nth h i).kind (step_of ss d).kind ≡ false = rw m at e in
      rw (length_chosen at d, f) refl

flat_nothing : {A B : Type 0} (g : A → List B) → ((x : A) → g x ≡ []) → (xs : List A) → flat g xs ≡ []
unfolding flat
flat_nothing g e [] = refl
flat_nothing g e (x ∷ xs) = rw (e x) (flat_nothing g e xs)

module _ (h : List Event) (p : Pattern) (upto : ℕ) where
  -- the first event at i, the last at l, and l is out of the window from i
  module _ (i l : ℕ) (late : leb (nth h l).time ((nth h i).time + p.within) ≡ false) where
    unfit : (s : Step) (ps : List ℕ) → fits h p.within s (i ∷ ps) l ≡ false
    unfolding fits none_of
    unfit s ps = rw late (and-false (fits_step (each (nth h) (i ∷ ps)) (nth h l) s.kind s.tests))

    -- at the last level none may be chosen
    end_not : (c x : ℕ) (pre ps : List ℕ) → forward (c ∷ x ∷ pre) ≡ l ∷ i ∷ ps → length pre + 2 ≡ length p.steps → row_ok h p.within p.steps (x ∷ pre) c ≡ false
    unfolding row_ok forward
    end_not c x pre ps e n =
        let t : eqb (length pre + 2) (length p.steps) ≡ true = eq-eqb _ _ n in
        let f : (forward pre ++ x ∷ []) ++ c ∷ [] ≡ l ∷ i ∷ ps = e in
        let g : get_or (forward pre ++ x ∷ []) 0 0 ≡ l = sym (get_or_append_left (forward pre ++ x ∷ []) (c ∷ []) 0 0 (omega (arith, length_push (forward pre) x))) ∙ ap (λ xs. get_or xs 0 0) f in
        rw (t, f, g, unfit (step_of p.steps (length p.steps - 1)) ps) (and-false (fits h p.within (step_of p.steps (length pre)) (drop 1 (forward pre ++ x ∷ [])) c))

    -- so there is no way behind
    none_behind : (n x : ℕ) (pre ps : List ℕ) → forward (x ∷ pre) ≡ l ∷ i ∷ ps → suc n + length (x ∷ pre) ≡ length p.steps → paths (space h p upto) (suc n) (x ∷ pre) ≡ []
    unfolding paths forward flat
    none_behind zero x pre ps e m =
        let S = space h p upto in
        let is = run (row_lo (x ∷ pre)) (row_hi upto (x ∷ pre) - row_lo (x ∷ pre)) in
        let none : those (row_ok h p.within p.steps (x ∷ pre)) is ≡ [] =
        those_none (row_ok h p.within p.steps (x ∷ pre)) is
        (all_any (λ c. row_ok h p.within p.steps (x ∷ pre) c ≡ false) (λ c. end_not c x pre (ps ++ c ∷ []) (ap (λ xs. xs ++ c ∷ []) e) (omega arith)) is) in
        ap (flat (λ c. paths S 0 (c ∷ x ∷ pre))) none
    none_behind (suc n) x pre ps e m =
        flat_nothing (λ c. paths (space h p upto) (suc n) (c ∷ x ∷ pre)) (λ c. none_behind n c (x ∷ pre) (ps ++ c ∷ []) (ap (λ xs. xs ++ c ∷ []) e) (omega arith))
        (those (row_ok h p.within p.steps (x ∷ pre)) (run (row_lo (x ∷ pre)) (row_hi upto (x ∷ pre) - row_lo (x ∷ pre))))

  reach_barren : (l i : ℕ) → leb (nth h l).time ((nth h i).time + p.within) ≡ false → 2 ≤ length p.steps → Barren (space h p upto) (length p.steps - 1 - 1) (l ∷ []) i
  unfolding forward
  reach_barren l i late k t = go (length p.steps - 1 - 1) refl
    where
      go : (n : ℕ) → length p.steps - 1 - 1 ≡ n → paths (space h p upto) n (i ∷ l ∷ []) ≡ []
      go zero e = clash t (end_not i l late i l [] [] refl (omega arith))
      go (suc n) e = none_behind i l late n i (l ∷ []) [] refl (omega arith)

-- a kept pattern's level step, by its kind
pub kept_kind_not : (h : List Event) (c at : List ℕ) (d i kind : ℕ) → d < kept_count c → kind ≡ (kept_step c (level_step (kept_count c) d)).kind → eqb (nth h i).kind kind ≡ false
    → row_ok h (kept_pattern c).within (kept_pattern c).steps (chosen at d) i ≡ false
kept_kind_not h c at d i kind l e t =
    let n = steps_long c in
    let s : step_of (kept_pattern c).steps (level_step (length (kept_pattern c).steps) d) ≡ kept_step c (level_step (kept_count c) d) =
    rw n (kept_at c (level_step (kept_count c) d) (grind (arith, nat_tests))) in
    kind_not h (kept_pattern c).within (kept_pattern c).steps at d i (omega arith) (rw (s, ← e) t)

-- where a level may begin, and all before that leads nowhere
abbrev pub Starts : List Event → Pattern → List ℕ → ℕ → ℕ → Type 0
Starts h p at d r =
    ((row_lo (chosen at d) ≤ r) × (r ≤ get_or at 0 0))
    × ((upto i : ℕ) → row_lo (chosen at d) ≤ i → i < r → Barren (space h p upto) (length p.steps - 1 - d) (chosen at d) i)

pub starts_first : (h : List Event) (p : Pattern) (at : List ℕ) (d r : ℕ) → d ≡ 1 → 2 ≤ length p.steps → r ≤ get_or at 0 0
    → ((i : ℕ) → i < r → leb (nth h (get_or at 0 0)).time ((nth h i).time + p.within) ≡ false) → Starts h p at d r
unfolding chosen row_lo
starts_first h p at d r e k l f = rw e ((omega arith, l), λ upto i a b. reach_barren h p upto (get_or at 0 0) i (f i b) k)

pub starts_next : (h : List Event) (p : Pattern) (at : List ℕ) (d : ℕ) → 2 ≤ d → get_or at (d - 1) 0 < get_or at 0 0 → Starts h p at d (get_or at (d - 1) 0 + 1)
starts_next h p at d l k = let e = lo_more at d l in ((omega arith, omega arith), λ upto i a b. absurd (omega arith))
