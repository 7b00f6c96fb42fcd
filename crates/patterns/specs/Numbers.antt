-- Patterns in a row of numbers: within, late, how many steps; a step is its kind, how many tests, these, how many nevers, these; a never a
-- kind, how many tests, these; a test what, sign, 0 or else 1 and the step, and the other. Behind a row's end stand zeros.
-- Assumes nothing: these are definitions.
use Rattle.std.specs.Prelude.{ℕ, zero, suc, ◌+◌, ◌*◌, List, [], ◌∷◌, take, drop, slice_index}
use Rattle.patterns.specs.Patterns.{Test, Never, Step, Pattern}

unfoldable pub tests_in : ℕ → List ℕ → List Test
tests_in zero xs = []
tests_in (suc n) xs =
    record { what = slice_index xs 0; sign = slice_index xs 1; step = take (slice_index xs 2) (slice_index xs 3 ∷ []); other = slice_index xs 4 } ∷ tests_in n (drop 5 xs)

unfoldable pub nevers_in : ℕ → List ℕ → List Never
nevers_in zero xs = []
nevers_in (suc n) xs = record { kind = slice_index xs 0; tests = tests_in (slice_index xs 1) (drop 2 xs) } ∷ nevers_in n (drop (2 + 5 * slice_index xs 1) xs)

-- how many numbers so many nevers take
unfoldable pub nevers_long : ℕ → List ℕ → ℕ
nevers_long zero xs = 0
nevers_long (suc n) xs = 2 + 5 * slice_index xs 1 + nevers_long n (drop (2 + 5 * slice_index xs 1) xs)

unfoldable pub steps_in : ℕ → List ℕ → List Step
steps_in zero xs = []
steps_in (suc n) xs =
    let ys : List ℕ = drop (2 + 5 * slice_index xs 1) xs in
    record { kind = slice_index xs 0; tests = tests_in (slice_index xs 1) (drop 2 xs); never = nevers_in (slice_index ys 0) (drop 1 ys) }
    ∷ steps_in n (drop (1 + nevers_long (slice_index ys 0) (drop 1 ys)) ys)

-- the pattern that a row of numbers says, whether it may be or not
abbrev pub pattern_in : List ℕ → Pattern
pattern_in xs = record { steps = steps_in (slice_index xs 2) (drop 3 xs); within = slice_index xs 0; late = slice_index xs 1 }
