-- A reader always has room for what may come next.
use Rattle.std.proofs.Common.{◌≡◌, ℕ, suc, ◌*◌, ◌≤◌, true, ◌&&◌, ltb, leb, List, [], ◌∷◌, length, sym, refl, ap, ◌∙◌, arith, length-append}
use Rattle.std.proofs.Math.Logic.{∥∥₁_elim}
use Rattle.std.proofs.Props.{props}
use Rattle.std.proofs.lemmas.Bool.{and_parts, leb-true}
use Rattle.timeline.specs.Lists.{every, flat}
use Rattle.patterns.specs.Patterns.{Test, Never, Step}
use Rattle.patterns.specs.Kept.{test_cells}
use Rattle.patterns.specs.Limits.{a_test, some_tests, a_step, some_steps}
use Rattle.patterns.specs.Reading.{a_never}
use Rattle.syntax.specs.declared.drafts.Draft.{Draft}
use Rattle.syntax.specs.Rows.{never_row, step_row}
use Rattle.syntax.specs.Reading.{Built}
use Rattle.syntax.specs.Drafts.{Drawn, Roomy}
use Rattle.syntax.specs.declared.places.Stand.{Stand}
use Rattle.syntax.specs.Sound.{Fine}
use Rattle.syntax.specs.Standing.{IsSound}
use Rattle.syntax.proofs.Growing.{length_each}

pub tests_long : (ts : List Test) → length (flat test_cells ts) ≡ 5 * length ts
unfolding flat test_cells
tests_long [] = refl
tests_long (t ∷ ts) = let ih = tests_long ts in omega arith

tests_few : (n : ℕ) (ts : List Test) → some_tests n ts ≡ true → length ts ≤ 4
tests_few n ts e = leb-true (length ts) 4 (and_parts (leb (length ts) 4) (every (a_test n) ts) e).0

never_short : (n : ℕ) (v : Never) → a_never n v ≡ true → length (never_row v) ≤ 22
never_short n v e =
    let few = tests_few n v.tests (and_parts (ltb v.kind 65536) (some_tests n v.tests) e).1 in
    omega (arith, tests_long v.tests)

nevers_short : (n : ℕ) (vs : List Never) → every (a_never n) vs ≡ true → length (flat never_row vs) ≤ 22 * length vs
unfolding flat every
nevers_short n [] e = omega arith
nevers_short n (v ∷ vs) e =
    let both = and_parts (a_never n v) (every (a_never n) vs) e in
    let ih = nevers_short n vs both.1 in
    rw (length-append (never_row v) (flat never_row vs)) (omega (arith, never_short n v both.0))

step_short : (n : ℕ) (s : Step) → a_step n s ≡ true → length (step_row s) ≤ 67
step_short n s e =
    let both = and_parts (ltb s.kind 65536 && some_tests n s.tests) (leb (length s.never) 2 && every (a_never n) s.never) e in
    let few = tests_few n s.tests (and_parts (ltb s.kind 65536) (some_tests n s.tests) both.0).1 in
    let nevers = and_parts (leb (length s.never) 2) (every (a_never n) s.never) both.1 in
    let short = nevers_short n s.never nevers.1 in
    rw (length-append (s.kind ∷ length s.tests ∷ flat test_cells s.tests) (length s.never ∷ flat never_row s.never)) (omega (arith, tests_long s.tests, leb-true (length s.never) 2 nevers.0))

pub steps_short : (n : ℕ) (ss : List Step) → some_steps n ss ≡ true → length (flat step_row ss) ≤ 67 * length ss
unfolding flat some_steps
steps_short n [] e = omega arith
steps_short n (s ∷ ss) e =
    let both = and_parts (a_step n s) (some_steps (suc n) ss) e in
    let ih = steps_short (suc n) ss both.1 in
    rw (length-append (step_row s) (flat step_row ss)) (omega (arith, step_short n s both.0))

pub drawn_nevers : (d : Draft) (w : Built) → Drawn d w → length d.nevers.items ≡ length w.nevers
drawn_nevers d w h = sym (length_each (λ v. v.items) d.nevers.items) ∙ ap length h.nevers ∙ length_each never_row w.nevers

pub drawn_tests : (d : Draft) (w : Built) → Drawn d w → length d.tests.items ≡ length w.tests
drawn_tests d w h = ap length h.tests ∙ length_each test_cells w.tests

pub roomy : (d : Draft) (w : Built) → Fine w → Drawn d w → Roomy d
roomy d w f h =
    record {
      steps = omega (arith, ap length h.steps, steps_short 0 w.steps f.steps, f.steps_few);
      names = omega (arith, ap length h.names, f.names, f.steps_few);
      nevers = omega (arith, drawn_nevers d w h, f.nevers_few);
      tests = omega (arith, drawn_tests d w h, f.tests_few);
    }

pub roomy_sound : (at : Stand) (d : Draft) → ∥ IsSound at d ∥₁ → Roomy d
roomy_sound at d sound = ∥∥₁_elim sound (hlevel props) (λ h. roomy d h.0.built h.2.built h.1.draft)
