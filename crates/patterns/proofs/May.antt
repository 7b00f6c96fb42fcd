-- Which parts of a row may be, together, and a pattern by its head and its steps.
use Rattle.std.proofs.Common.{◌≡◌, ℕ, ◌<◌, ◌≤◌, Bool, true, false, ◌&&◌, leb, List, ◌∷◌, length, get_or, get_or-drop, drop, drop-drop, Bor, refl, arith}
use Rattle.std.proofs.lemmas.Bool.{and_from, and_right, le-leb, lt-leb}
use Rattle.std.proofs.lemmas.Bool.Decides.{nat_tests}
use Rattle.timeline.specs.Lists.{every}
use Rattle.patterns.specs.Patterns.{Test}
use Rattle.patterns.specs.Limits.{some_steps, a_pattern}
use Rattle.patterns.specs.Numbers.{steps_in, pattern_in}
use Rattle.patterns.specs.Kept.{padded, test_cells, step_cells, pattern_cells}
use Rattle.patterns.specs.Reading.{a_head, First}
use Rattle.patterns.proofs.Parts.{length_steps}

-- so many at most, each as it may be
module _ {A : Type 0} (f : A → Bool) (most k : ℕ) (xs : List A) (long : length xs ≡ k) where
  pub too_many : most < k → (leb (length xs) most && every f xs) ≡ false
  too_many l = let e : leb (length xs) most ≡ false = lt-leb _ _ (rw long l) in rw e refl

  pub not_every : every f xs ≡ false → (leb (length xs) most && every f xs) ≡ false
  not_every e = and_right (leb (length xs) most) _ e

  pub few_enough : k ≤ most → every f xs ≡ true → (leb (length xs) most && every f xs) ≡ true
  few_enough l e = and_from (leb (length xs) most) _ (le-leb _ _ (rw long l)) e

pub length_test : (t : Test) → length (test_cells t) ≡ 5
unfolding test_cells
length_test t = refl

pub head_few : (w l k : ℕ) → true ≡ a_head w l k → k ≤ 6
head_few w l k e = grind (arith, nat_tests)

-- a pattern may be by its three numbers in front, and its steps behind them
module _ (row : List ℕ) (within late count : ℕ × Bor (List ℕ)) (a : First row within) (b : First within.1.now late) (d : First late.1.now count) where
  late_is : late.0 ≡ get_or row 1 0
  late_is = rw (b.0, a.1) (get_or-drop 1 row 0 0)

  count_is : count.0 ≡ get_or row 2 0
  count_is = rw (d.0, b.1, a.1, drop-drop 1 1 row) (get_or-drop 2 row 0 0)

  steps_are : count.1.now ≡ drop 3 row
  steps_are = rw (d.1, b.1, a.1, drop-drop 1 1 row) (drop-drop 1 2 row)

  pub pattern_may : (a_head within.0 late.0 count.0 && some_steps 0 (steps_in count.0 count.1.now)) ≡ a_pattern (pattern_in row)
  pattern_may = rw (a.0, late_is, count_is, steps_are, length_steps (get_or row 2 0) (drop 3 row)) (grind (arith, nat_tests))

  pub pattern_whole : within.0 ∷ late.0 ∷ count.0 ∷ padded 67 step_cells 6 (steps_in count.0 count.1.now) ≡ pattern_cells (pattern_in row)
  unfolding pattern_cells
  pattern_whole = rw (a.0, late_is, count_is, steps_are, length_steps (get_or row 2 0) (drop 3 row)) refl
