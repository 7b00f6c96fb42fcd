-- A pattern kept in a fixed layout of 405 words: within, late, how many steps, and room for six steps of 67 words. A step is its kind, 21
-- words of tests and 45 of nevers; tests are their count and room for four of five words; nevers their count and room for two of 22 words, a
-- kind and tests. Room that is not used is 0.
-- Assumes nothing: these are definitions.
use Rattle.std.specs.Prelude.{ℕ, zero, suc, ◌+◌, ◌*◌, List, [], ◌∷◌, ◌++◌, length, take, replicate, nat_le, slice_index}
use Rattle.timeline.specs.Lists.{pick, each, run}
use Rattle.patterns.specs.Patterns.{Test, Never, Step, Pattern}

-- THE WORDS OF A PATTERN

-- so many places of a width, with 0 where there is nothing
unfoldable pub padded : {A : Type 0} → ℕ → (A → List ℕ) → ℕ → List A → List ℕ
padded w f zero xs = []
padded w f (suc n) [] = replicate w 0 ++ padded w f n []
padded w f (suc n) (x ∷ xs) = f x ++ padded w f n xs

-- 5 words
unfoldable pub test_cells : Test → List ℕ
test_cells t = t.what ∷ t.sign ∷ length t.step ∷ slice_index t.step 0 ∷ t.other ∷ []

-- 21 words
unfoldable pub tests_cells : List Test → List ℕ
tests_cells ts = length ts ∷ padded 5 test_cells 4 ts

-- 22 words
unfoldable pub never_cells : Never → List ℕ
never_cells v = v.kind ∷ tests_cells v.tests

-- 45 words
unfoldable pub nevers_cells : List Never → List ℕ
nevers_cells vs = length vs ∷ padded 22 never_cells 2 vs

-- 67 words
unfoldable pub step_cells : Step → List ℕ
step_cells s = s.kind ∷ (tests_cells s.tests ++ nevers_cells s.never)

-- 405 words
unfoldable pub pattern_cells : Pattern → List ℕ
pattern_cells p = p.within ∷ p.late ∷ length p.steps ∷ padded 67 step_cells 6 p.steps

-- THE PATTERN THAT WORDS MEAN, whatever they are: a count that is too large is read as the most there can be

abbrev pub at_most : ℕ → ℕ → ℕ
at_most m n = pick (nat_le n m) n m

abbrev pub kept_test : List ℕ → ℕ → Test
kept_test c n = record { what = slice_index c n; sign = slice_index c (n + 1); step = take (slice_index c (n + 2)) (slice_index c (n + 3) ∷ []); other = slice_index c (n + 4) }

unfoldable pub kept_tests : List ℕ → ℕ → List Test
kept_tests c n = each (λ i. kept_test c (n + 1 + 5 * i)) (run 0 (at_most 4 (slice_index c n)))

abbrev pub kept_never : List ℕ → ℕ → Never
kept_never c n = record { kind = slice_index c n; tests = kept_tests c (n + 1) }

unfoldable pub kept_nevers : List ℕ → ℕ → List Never
kept_nevers c n = each (λ i. kept_never c (n + 1 + 22 * i)) (run 0 (at_most 2 (slice_index c n)))

-- the step that words of its own mean
abbrev pub step_in : List ℕ → Step
step_in c = record { kind = slice_index c 0; tests = kept_tests c 1; never = kept_nevers c 22 }

-- where the words of a step begin
abbrev pub step_place : ℕ → ℕ
step_place s = 3 + 67 * s

abbrev pub kept_step : List ℕ → ℕ → Step
kept_step c s =
    record {
      kind = slice_index c (step_place s);
      tests = kept_tests c (step_place s + 1);
      never = kept_nevers c (step_place s + 22);
    }

-- how many steps
abbrev pub kept_count : List ℕ → ℕ
kept_count c = at_most 6 (slice_index c 2)

unfoldable pub kept_pattern : List ℕ → Pattern
kept_pattern c = record { steps = each (kept_step c) (run 0 (kept_count c)); within = slice_index c 0; late = slice_index c 1 }
