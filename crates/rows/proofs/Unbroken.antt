-- Positions of the last but one event from which something forbidden lies before the last event may not be chosen.
use Rattle.std.proofs.Common.{◌≡◌, ℕ, suc, ◌+◌, ◌-◌, ◌<◌, ◌≤◌, Bool, true, false, ltb, ◌≢◌, List, length, get_or, take, drop, set, sym, refl, ◌∙◌, arith, length-drop, length-take}
use Rattle.std.proofs.Math.Bool.{and-false}
use Rattle.std.proofs.lemmas.List.{get_or-set_same, get_or-set_other, length-set}
use Rattle.std.proofs.lemmas.Bool.{ne_eqb, ltb-true, ltb-false}
use Rattle.timeline.specs.declared.events.Event.{Event}
use Rattle.timeline.specs.Lists.{each, none_of}
use Rattle.timeline.specs.Order.{nth}
use Rattle.timeline.proofs.Lists.{clash}
use Rattle.patterns.specs.Patterns.{Step}
use Rattle.patterns.specs.Kept.{kept_step, kept_count, kept_pattern}
use Rattle.patterns.proofs.Steps.{steps_six}
use Rattle.rows.specs.Search.{Barren, chosen}
use Rattle.rows.specs.Finding.{forbidden, fits, row_ok, row_lo, space}
use Rattle.rows.proofs.Positions.{any_at}
use Rattle.rows.proofs.Passing.{none_of_is}
use Rattle.rows.proofs.Fitting.{place_before}
use Rattle.rows.proofs.Chosen.{chosen_set}
use Rattle.rows.proofs.Pruning.{Starts}
use Rattle.rows.proofs.LevelOk.{ok_last_not}

-- something forbidden lies between the place before and this one
broken_fits : (h : List Event) (w : ℕ) (s : Step) (ps : List ℕ) (p i r : ℕ) → none_of ps ≡ false → get_or ps (length ps - 1) 0 ≡ i → i < r → r < p → forbidden (each (nth h) ps) s (nth h r) ≡ true → false ≡ fits h w s ps p
unfolding fits
broken_fits h w s ps p i r n e l k f =
    let a = any_at (λ j. forbidden (each (nth h) ps) s (nth h j)) (suc i) (p - suc i) r (omega arith) (omega arith) f in
    rw (n, e, a, and-false, and-false) refl

module _ (h : List Event) (c at : List ℕ) (d : ℕ) (la : length at ≡ 6) (few : d < kept_count c) (z : d ≡ 0 → ⊥) (end : d + 1 ≡ kept_count c) where
  unbroken : (r i : ℕ) → i < r → r < get_or at 0 0 → ((es : List Event) → forbidden es (kept_step c d) (nth h r) ≡ true)
      → row_ok h (kept_pattern c).within (kept_pattern c).steps (chosen at d) i ≡ false
  unbroken r i l k f =
      let at₁ = set at d i in
      let ps = take d (drop 1 at₁) in
      let deep : d < length at = omega (arith, steps_six c) in
      let here : get_or at₁ d 0 ≡ i = get_or-set_same at d i 0 deep in
      let ne : 0 ≢ d = λ q. z (sym q) in
      let top : get_or at₁ 0 0 ≡ get_or at 0 0 = get_or-set_other at d 0 i 0 ne in
      let long : length ps ≡ d = omega (arith, length-take d (drop 1 at₁), length-drop 1 at₁, length-set at d i) in
      let last : get_or ps (length ps - 1) 0 ≡ i = place_before at₁ d (omega arith) (omega (arith, length-set at d i)) ∙ here in
      let b = broken_fits h (kept_pattern c).within (kept_step c d) ps (get_or at₁ 0 0) i r (none_of_is ps ∙ ne_eqb (length ps) 0 (λ e. omega arith)) last l (omega arith) (f (each (nth h) ps)) in
      let o = ok_last_not h c at₁ d z few (omega (arith, length-set at d i)) end b in
      sym (rw (chosen_set at d d i (omega arith), here) at o)

  pub starts_unbroken : (start r : ℕ) → Starts h (kept_pattern c) at d start → start ≤ r → r ≤ get_or at 0 0
      → (start < r → (r < get_or at 0 0) × ((es : List Event) → forbidden es (kept_step c d) (nth h r) ≡ true)) → Starts h (kept_pattern c) at d r
  starts_unbroken start r s l k f = ((omega (arith, s.0.0), k), λ upto i a b. go upto i a b (ltb i start) refl)
    where
      go : (upto i : ℕ) → row_lo (chosen at d) ≤ i → i < r → (t : Bool) → ltb i start ≡ t → Barren (space h (kept_pattern c) upto) (length (kept_pattern c).steps - 1 - d) (chosen at d) i
      go upto i a b true q = s.1 upto i a (ltb-true i start q)
      go upto i a b false q =
          let m = ltb-false i start q in
          let g = f (omega arith) in
          λ t. clash t (unbroken r i b g.0 g.1)
