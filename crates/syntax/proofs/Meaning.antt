-- What a text reads as is a pattern that may be.
use Rattle.std.proofs.Common.{◌≡◌, ℕ, ◌+◌, ◌≤◌, true, List, [], ◌∷◌, length, Some, None, Ok, Option, refl, ap, ◌∙◌, arith}
use Rattle.std.proofs.lemmas.Bool.{and_from, lt-ltb, le-leb}
use Rattle.patterns.specs.Patterns.{Pattern}
use Rattle.patterns.specs.Limits.{a_pattern}
use Rattle.patterns.specs.Numbers.{pattern_in}
use Rattle.syntax.specs.declared.places.Place.TheVariants.{Item, Number, StepName, NeverName, Named, Testing, Tested, LateWord, Whole}
use Rattle.syntax.specs.declared.places.Stand.{Stand}
use Rattle.syntax.specs.declared.places.Stand.TheVariants.{At, Rest, Digits}
use Rattle.syntax.specs.declared.expects.Expected.{Expected}
use Rattle.syntax.specs.Reading.{Built, State, Reading, means, refused, settled, ready, next, wanted, whole, by_some, runs, begun, reads}
use Rattle.syntax.specs.Rows.{pattern_row}
use Rattle.syntax.specs.Readers.{Rowed}
use Rattle.arrayvec.specs.ArrayVec.{ArrayVec}
use Rattle.syntax.specs.Laws.{ReadMayBe}
use Rattle.syntax.specs.Sound.{Fine, FineStand, Sound}
use Rattle.syntax.proofs.Staying.{sound_begun, sound_settled, sound_ready, sound_next}
use Rattle.syntax.proofs.Back.{pattern_back}

pub no_pattern : {A : Type 0} (at : ℕ) (e : Expected) (p : Pattern) → refused at e ≡ means p → A
no_pattern at e p h = let z : ◌≡◌ {A = ℕ} 0 1 = cc in absurd (omega arith)

module _ (w : Built) (fine : Fine w) (at : ℕ) (e : Expected) (p : Pattern) where
  end_fine : (s : Stand) → FineStand s w → by_some (whole s) (refused at e) (λ t. means (record { steps = w.steps; within = t.0; late = t.1 })) ≡ means p → a_pattern p ≡ true
  end_fine (At Item) h k = no_pattern at e p k
  end_fine (At (Number n)) h k = no_pattern at e p k
  end_fine (At (StepName n)) h k = no_pattern at e p k
  end_fine (At (NeverName n)) h k = no_pattern at e p k
  end_fine (At (Named g)) h k = no_pattern at e p k
  end_fine (At (Testing g q)) h k = no_pattern at e p k
  end_fine (At (Tested g)) h k = no_pattern at e p k
  end_fine (At (LateWord t)) h k = no_pattern at e p k
  end_fine (At (Whole t l)) h k =
      let same : ◌≡◌ {A = Pattern} (record { steps = w.steps; within = t; late = l }) p = cc in
      let some : 1 ≤ length w.steps = omega (arith, fine.names, h.2) in
      rw (← same)
      (and_from _ _ (and_from _ _ (le-leb _ _ some) (le-leb _ _ fine.steps_few)) (and_from _ _ fine.steps (and_from _ _ (lt-ltb _ _ h.0) (lt-ltb _ _ h.1))))
  end_fine (Rest x i q) h k = no_pattern at e p k
  end_fine (Digits n v) h k = no_pattern at e p k

run_fine : (text : List ℕ) (at : ℕ) (s : State) (p : Pattern) → Sound s → runs at s text ≡ means p → a_pattern p ≡ true
unfolding runs
run_fine [] at s p h e = let end = sound_settled s h in end_fine (settled s).built end.built at (wanted (settled s)) p (settled s).stand end.stand e
run_fine (b ∷ bs) at s p h e = by (next b (ready b s)) refl e (λ t. run_fine bs (at + 1) t p)
  where
    by : (o : Option State) → next b (ready b s) ≡ o → by_some o (refused at (wanted (settled (ready b s)))) (λ t. runs (at + 1) t bs) ≡ means p
        → ((t : State) → Sound t → runs (at + 1) t bs ≡ means p → a_pattern p ≡ true) → a_pattern p ≡ true
    by None g k rec = no_pattern at _ p k
    by (Some t) g k rec = rec t (sound_next b (ready b s) t (sound_ready b s h) g) k

pub meant_may_be : (text : List ℕ) (p : Pattern) → reads text ≡ means p → a_pattern p ≡ true
meant_may_be text p e = run_fine text 0 begun p sound_begun e

pub read_may_be : ReadMayBe
unfolding ReadMayBe
read_may_be = λ text p e. let ok = meant_may_be text p e in (ok, pattern_back p ok)

-- the numbers that are read say a pattern that may be
pub rowed_as : (r : Reading) (row : ArrayVec ℕ) → Rowed r (Ok row) → (p : Pattern) × (r ≡ means p) × (row.items ≡ pattern_row p)
rowed_as (means p) row h = (p, refl, h)
rowed_as (refused b e) row h = let z : ◌≡◌ {A = ℕ} 0 1 = cc in absurd (omega arith)

pub rowed_may_be : (text : List ℕ) (row : ArrayVec ℕ) → Rowed (reads text) (Ok row) → a_pattern (pattern_in row.items) ≡ true
rowed_may_be text row h =
    let is = rowed_as (reads text) row h in
    let may = meant_may_be text is.0 is.1 in
    ap (λ xs. a_pattern (pattern_in xs)) is.2 ∙ ap a_pattern (pattern_back is.0 may) ∙ may
