-- The tests, nevers and steps of a row, one after the other, and how many there are.
use Rattle.std.proofs.Common.{◌≡◌, ℕ, zero, suc, ◌+◌, ◌*◌, List, ◌∷◌, ◌++◌, ◌&&◌, length, get_or, drop, flat_map, sym, refl, ap, ◌∙◌, arith, get_or-drop, drop-drop}
use Rattle.timeline.specs.Lists.{every}
use Rattle.patterns.specs.Limits.{a_test, a_step, some_steps}
use Rattle.patterns.specs.Numbers.{tests_in, nevers_in, nevers_long, steps_in}
use Rattle.patterns.specs.Kept.{kept_test, test_cells, never_cells, step_cells}
use Rattle.patterns.specs.Reading.{first_never, behind_never, first_step, behind_step, a_never, Part, all_may, all_parts, behind_all}

-- a test, a never and a step as parts
abbrev pub test_part : ℕ → Part (List ℕ)
test_part n = record { may = λ i row. a_test n (kept_test row 0); part = λ row. test_cells (kept_test row 0); behind = λ row. drop 5 row }

abbrev pub never_part : ℕ → Part (List ℕ)
never_part n = record { may = λ i row. a_never n (first_never row); part = λ row. never_cells (first_never row); behind = λ row. behind_never row }

abbrev pub step_part : Part (List ℕ)
step_part = record { may = λ i row. a_step i (first_step row); part = λ row. step_cells (first_step row); behind = λ row. behind_step row }

-- where a never ends
never_ends : (xs : List ℕ) → behind_never xs ≡ drop (2 + 5 * get_or xs 1 0) xs
never_ends xs = rw (get_or-drop 1 xs 0 0, drop-drop 1 1 xs) (drop-drop (5 * get_or xs 1 0) 2 xs)

one_never : (n : ℕ) (xs : List ℕ) → nevers_in (suc n) xs ≡ first_never xs ∷ nevers_in n (behind_never xs)
unfolding nevers_in
one_never n xs = rw (never_ends xs, get_or-drop 1 xs 0 0, drop-drop 1 1 xs) refl

one_step : (n : ℕ) (xs : List ℕ) → steps_in (suc n) xs ≡ first_step xs ∷ steps_in n (behind_step xs)
unfolding steps_in
one_step n xs =
    let ys = drop (2 + 5 * get_or xs 1 0) xs in
    rw (never_ends xs, get_or-drop 1 xs 0 0, drop-drop 1 1 xs, drop-drop (nevers_long (get_or ys 0 0) (drop 1 ys)) 1 ys) refl

-- so many tests
module _ (n : ℕ) where
  pub tests_may : (i k : ℕ) (row : List ℕ) → all_may (test_part n) i k row ≡ every (a_test n) (tests_in k row)
  unfolding all_may tests_in every
  tests_may i zero row = refl
  tests_may i (suc k) row = ap (λ b. a_test n (kept_test row 0) && b) (tests_may (suc i) k (drop 5 row))

  pub tests_words : (k : ℕ) (row : List ℕ) → flat_map (λ x. x) (all_parts (test_part n) k row) ≡ flat_map test_cells (tests_in k row)
  unfolding all_parts tests_in
  tests_words zero row = refl
  tests_words (suc k) row = ap (λ ws. test_cells (kept_test row 0) ++ ws) (tests_words k (drop 5 row))

  pub tests_behind : (k : ℕ) (row : List ℕ) → behind_all (test_part n) k row ≡ drop (5 * k) row
  unfolding behind_all
  tests_behind zero row = refl
  tests_behind (suc k) row = let d : 5 + 5 * k ≡ 5 * suc k = omega arith in tests_behind k (drop 5 row) ∙ drop-drop (5 * k) 5 row ∙ ap (λ m. drop m row) d

  -- so many nevers
  pub nevers_may : (i k : ℕ) (row : List ℕ) → all_may (never_part n) i k row ≡ every (a_never n) (nevers_in k row)
  unfolding all_may nevers_in every
  nevers_may i zero row = refl
  nevers_may i (suc k) row = ap (λ b. a_never n (first_never row) && b) (nevers_may (suc i) k (behind_never row)) ∙ ap (every (a_never n)) (sym (one_never k row))

  pub nevers_words : (k : ℕ) (row : List ℕ) → flat_map (λ x. x) (all_parts (never_part n) k row) ≡ flat_map never_cells (nevers_in k row)
  unfolding all_parts nevers_in
  nevers_words zero row = refl
  nevers_words (suc k) row = ap (λ ws. never_cells (first_never row) ++ ws) (nevers_words k (behind_never row)) ∙ ap (flat_map never_cells) (sym (one_never k row))

  pub nevers_behind : (k : ℕ) (row : List ℕ) → behind_all (never_part n) k row ≡ drop (nevers_long k row) row
  unfolding behind_all nevers_long
  nevers_behind zero row = refl
  nevers_behind (suc k) row =
      let m = 2 + 5 * get_or row 1 0 in
      nevers_behind k (behind_never row) ∙ ap (λ ys. drop (nevers_long k ys) ys) (never_ends row) ∙ drop-drop (nevers_long k (drop m row)) m row

-- so many steps
pub steps_may : (i k : ℕ) (row : List ℕ) → all_may step_part i k row ≡ some_steps i (steps_in k row)
unfolding all_may steps_in some_steps
steps_may i zero row = refl
steps_may i (suc k) row = ap (λ b. a_step i (first_step row) && b) (steps_may (suc i) k (behind_step row)) ∙ ap (some_steps i) (sym (one_step k row))

pub steps_words : (k : ℕ) (row : List ℕ) → flat_map (λ x. x) (all_parts step_part k row) ≡ flat_map step_cells (steps_in k row)
unfolding all_parts steps_in
steps_words zero row = refl
steps_words (suc k) row = ap (λ ws. step_cells (first_step row) ++ ws) (steps_words k (behind_step row)) ∙ ap (flat_map step_cells) (sym (one_step k row))

pub length_tests : (n : ℕ) (xs : List ℕ) → length (tests_in n xs) ≡ n
unfolding tests_in
length_tests zero xs = refl
length_tests (suc n) xs = ap suc (length_tests n (drop 5 xs))

pub length_nevers : (n : ℕ) (xs : List ℕ) → length (nevers_in n xs) ≡ n
unfolding nevers_in
length_nevers zero xs = refl
length_nevers (suc n) xs = ap suc (length_nevers n (drop (2 + 5 * get_or xs 1 0) xs))

pub length_steps : (n : ℕ) (xs : List ℕ) → length (steps_in n xs) ≡ n
unfolding steps_in
length_steps zero xs = refl
length_steps (suc n) xs = ap suc (length_steps n _)
