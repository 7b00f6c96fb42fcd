-- A never and a step from their parts: which may be, and their words.
use Rattle.std.proofs.Common.{◌≡◌, ℕ, suc, ◌<◌, true, ltb, List, ◌++◌, length, get_or, drop, refl, ap, ◌∙◌, arith, length-append}
use Rattle.std.proofs.lemmas.Bool.{lt-ltb}
use Rattle.patterns.specs.Patterns.{Test, Never, Step}
use Rattle.patterns.specs.Limits.{some_tests}
use Rattle.patterns.specs.Kept.{test_cells, tests_cells, never_cells, nevers_cells, step_cells}
use Rattle.patterns.specs.Reading.{first_tests, first_never, behind_never, first_nevers, first_step, a_never}
use Rattle.patterns.proofs.Laying.{padded_long}
use Rattle.patterns.proofs.May.{length_test}

pub length_tests_cells : (ts : List Test) → length (tests_cells ts) ≡ 21
unfolding tests_cells
length_tests_cells ts = ap suc (padded_long 5 test_cells length_test 4 ts)

pub length_never_cells : (v : Never) → length (never_cells v) ≡ 22
unfolding never_cells
length_never_cells v = ap suc (length_tests_cells v.tests)

length_nevers_cells : (vs : List Never) → length (nevers_cells vs) ≡ 45
unfolding nevers_cells
length_nevers_cells vs = ap suc (padded_long 22 never_cells length_never_cells 2 vs)

pub length_step_cells : (s : Step) → length (step_cells s) ≡ 67
unfolding step_cells
length_step_cells s = ap suc (length-append (tests_cells s.tests) (nevers_cells s.never) ∙ omega (arith, length_tests_cells s.tests, length_nevers_cells s.never))

pub never_may : (n : ℕ) (row : List ℕ) → get_or row 0 0 < 65536 → some_tests n (first_tests (drop 1 row)) ≡ a_never n (first_never row)
never_may n row l = let t : ltb (get_or row 0 0) 65536 ≡ true = lt-ltb _ _ l in rw t refl

-- a step begins as a never does
pub step_whole : (row : List ℕ) → never_cells (first_never row) ++ nevers_cells (first_nevers (behind_never row)) ≡ step_cells (first_step row)
unfolding never_cells step_cells
step_whole row = refl
