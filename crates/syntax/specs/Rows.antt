-- The row of numbers of a pattern: what `pattern_in` reads as that pattern, if it may be.
-- Assumes nothing: these are definitions.
use Rattle.std.specs.Prelude.{ℕ, List, ◌∷◌, ◌++◌, length}
use Rattle.timeline.specs.Lists.{flat}
use Rattle.patterns.specs.Patterns.{Test, Never, Step, Pattern}
use Rattle.patterns.specs.Kept.{test_cells}

abbrev pub tests_row : List Test → List ℕ
tests_row ts = length ts ∷ flat test_cells ts

abbrev pub never_row : Never → List ℕ
never_row v = v.kind ∷ tests_row v.tests

abbrev pub step_row : Step → List ℕ
step_row s = (s.kind ∷ tests_row s.tests) ++ (length s.never ∷ flat never_row s.never)

abbrev pub pattern_row : Pattern → List ℕ
pattern_row p = p.within ∷ p.late ∷ length p.steps ∷ flat step_row p.steps
