-- A candidate of another who than a test asks for may not be chosen.
use Rattle.std.proofs.Common.{◌≡◌, ℕ, ◌+◌, ◌-◌, ◌<◌, false, eqb, ◌≢◌, List, length, get_or, take, drop, set, sym, refl, ap, ◌∙◌, ap₂, arith, length-drop, length-take}
use Rattle.std.proofs.lemmas.List.{get_or-set_same, get_or-set_other, length-set}
use Rattle.timeline.specs.declared.events.Event.{Event}
use Rattle.timeline.specs.Lists.{each}
use Rattle.timeline.specs.Order.{nothing, nth}
use Rattle.patterns.specs.Patterns.{fits_step}
use Rattle.patterns.specs.Kept.{kept_step, kept_count, kept_pattern}
use Rattle.patterns.proofs.Steps.{steps_six}
use Rattle.rows.specs.Held.{Along}
use Rattle.rows.specs.Search.{chosen}
use Rattle.rows.specs.Finding.{row_ok}
use Rattle.rows.proofs.Picks.{eqb_turned}
use Rattle.rows.proofs.Positions.{nth_each}
use Rattle.rows.proofs.Chosen.{chosen_set}
use Rattle.rows.proofs.Fitting.{taken_last, fits_not}
use Rattle.rows.proofs.LevelOk.{along_stands, ok_not, ok_last_not}

module _ (h : List Event) (c at : List ℕ) (row : List Event) (d : ℕ) (la : length at ≡ 6) (lr : length row ≡ 6) (few : d < kept_count c) (z : d ≡ 0 → ⊥)
    (al : Along h at row d) (i : ℕ) where
  abbrev at₁ : List ℕ
  at₁ = set at d i

  abbrev unchosen : Type 0
  unchosen = row_ok h (kept_pattern c).within (kept_pattern c).steps (chosen at d) i ≡ false

  deep : d < length at
  deep = omega (arith, steps_six c)

  along₁ : Along h at₁ row d
  along₁ =
      record {
        inside = λ j l. let ne : j ≢ d = omega arith in rw (get_or-set_other at d j i 0 ne) (al.inside j l);
        are = λ j l. let ne : j ≢ d = omega arith in rw (get_or-set_other at d j i 0 ne) (al.are j l);
      }

  here : get_or at₁ d 0 ≡ i
  here = let l = deep in get_or-set_same at d i 0 l

  long : d < length at₁
  long = omega (arith, deep, length-set at d i)

  back_to : false ≡ row_ok h (kept_pattern c).within (kept_pattern c).steps (chosen at₁ d) (get_or at₁ d 0) → unchosen
  back_to o =
      let e = chosen_set at d d i (omega arith) in
      sym (rw (e, here) at o)

  -- its own step asks for another
  pub own_not : fits_step (take (d - 1) (drop 1 row)) (nth h i) (kept_step c (d - 1)).kind (kept_step c (d - 1)).tests ≡ false → unchosen
  own_not t =
      let st = along_stands h at₁ row d (d - 1) (length-set at d i ∙ la) lr along₁ (omega arith) (omega (arith, steps_six c)) in
      let f = fits_not h (kept_pattern c).within (kept_step c (d - 1)) (take (d - 1) (drop 1 at₁)) (take (d - 1) (drop 1 row)) i (nth h i) st refl t in
      back_to (ok_not h c at₁ d z few long (rw here f))

  -- the last step asks for the same, and the last event's is another
  module _ (end : d + 1 ≡ kept_count c) (asked : (es : List Event) (e : Event) → eqb e.who (nth es (d - 1)).who ≡ false → fits_step es e (kept_step c d).kind (kept_step c d).tests ≡ false) where
    own_place : nth (each (nth h) (take d (drop 1 at₁))) (d - 1) ≡ nth h i
    own_place =
        let l : d - 1 < length (take d (drop 1 at₁)) = omega (arith, length-take d (drop 1 at₁), length-drop 1 at₁, length-set at d i, deep) in
        nth_each h (take d (drop 1 at₁)) (d - 1) l ∙ ap (nth h) (taken_last at₁ d (omega arith) ∙ here)

    pub last_not : eqb (nth h i).who (get_or row 0 nothing).who ≡ false → unchosen
    last_not t =
        let a : get_or row 0 nothing ≡ nth h (get_or at₁ 0 0) = along₁.are 0 (omega arith) in
        let u = eqb_turned (get_or row 0 nothing).who (nth h i).who ∙ t in
        let v : eqb (nth h (get_or at₁ 0 0)).who (nth (each (nth h) (take d (drop 1 at₁))) (d - 1)).who ≡ false =
        ap₂ (λ x y. eqb x.who y.who) (sym a) own_place ∙ u in
        back_to (ok_last_not h c at₁ d z few long end (fits_not h (kept_pattern c).within (kept_step c d) (take d (drop 1 at₁)) (each (nth h) (take d (drop 1 at₁))) (get_or at₁ 0 0) (nth h (get_or at₁ 0 0)) refl refl (asked (each (nth h) (take d (drop 1 at₁))) (nth h (get_or at₁ 0 0)) v)))
