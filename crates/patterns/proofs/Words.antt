-- The words of a pattern are 405, and those of one that may be are below 2^64.
use Rattle.std.proofs.Common.{◌≡◌, ℕ, zero, suc, ◌<◌, ◌≤◌, Bool, true, ltb, List, [], ◌∷◌, ◌++◌, length, get_or, replicate, refl, ap, arith}
use Rattle.std.proofs.lemmas.Bool.{and_parts, and_from, lt-ltb, ltb-true}
use Rattle.std.proofs.lemmas.Bool.Decides.{nat_tests}
use Rattle.timeline.specs.Lists.{every, none_of}
use Rattle.timeline.proofs.Lists.{All}
use Rattle.patterns.specs.Patterns.{Test, Never, Step, Pattern}
use Rattle.patterns.specs.Limits.{a_test, a_pattern}
use Rattle.patterns.specs.Kept.{padded, test_cells, tests_cells, never_cells, nevers_cells, step_cells, pattern_cells}
use Rattle.patterns.specs.Reading.{a_never}
use Rattle.patterns.proofs.Each.{Few, Placed, never_parts, step_parts, pattern_parts}
use Rattle.patterns.proofs.Laying.{padded_long}
use Rattle.patterns.proofs.Wholes.{length_step_cells}

pub pattern_cells_long : (p : Pattern) → length (pattern_cells p) ≡ 405
unfolding pattern_cells
pattern_cells_long p = ap (λ n. suc (suc (suc n))) (padded_long 67 step_cells length_step_cells 6 p.steps)

abbrev small : ℕ → Bool
small m = ltb m 18446744073709551616

abbrev Small : List ℕ → Type 0
Small xs = every small xs ≡ true

small_first : (x : ℕ) (xs : List ℕ) → x < 18446744073709551616 → Small xs → Small (x ∷ xs)
unfolding every
small_first x xs l e = and_from (small x) (every small xs) (lt-ltb _ _ l) e

small_append : (xs ys : List ℕ) → Small xs → Small ys → Small (xs ++ ys)
unfolding every
small_append [] ys e f = f
small_append (x ∷ xs) ys e f = let h = and_parts (small x) (every small xs) e in and_from (small x) (every small (xs ++ ys)) h.0 (small_append xs ys h.1 f)

small_zeros : (n : ℕ) → Small (replicate n 0)
unfolding every
small_zeros zero = refl
small_zeros (suc n) = small_zeros n

module _ {A : Type 0} (w : ℕ) (f : A → List ℕ) (P : A → Type 0) (each : (x : A) → P x → Small (f x)) where
  small_places : (n : ℕ) (xs : List A) → All P xs → Small (padded w f n xs)
  unfolding padded every
  small_places zero xs a = refl
  small_places (suc n) [] a = small_append (replicate w 0) (padded w f n []) (small_zeros w) (small_places n [] a)
  small_places (suc n) (x ∷ xs) a = small_append (f x) (padded w f n xs) (each x a.0) (small_places n xs a.1)

small_numbers : (n w s o : ℕ) (st : List ℕ) → n ≤ 6 → a_test n (record { what = w; sign = s; step = st; other = o }) ≡ true → Small (w ∷ s ∷ length st ∷ get_or st 0 0 ∷ o ∷ [])
unfolding every none_of
small_numbers n w s o [] l e = grind (arith, nat_tests)
small_numbers n w s o (i ∷ []) l e = grind (arith, nat_tests)
small_numbers n w s o (i ∷ j ∷ is) l e = grind (arith, nat_tests)

module _ (n : ℕ) (l : n ≤ 6) where
  small_test : (t : Test) → a_test n t ≡ true → Small (test_cells t)
  unfolding test_cells
  small_test t e = small_numbers n t.what t.sign t.other t.step l e

  small_tests : (ts : List Test) → Few 4 (a_test n) ts → Small (tests_cells ts)
  unfolding tests_cells
  small_tests ts e = small_first (length ts) _ (omega (arith, e.0)) (small_places 5 test_cells (λ t. a_test n t ≡ true) small_test 4 ts e.1)

  small_never : (v : Never) → a_never n v ≡ true → Small (never_cells v)
  unfolding never_cells
  small_never v e = let h = never_parts n v e in let k = ltb-true _ _ h.0 in small_first v.kind _ (omega arith) (small_tests v.tests h.1)

  small_nevers : (vs : List Never) → Few 2 (a_never n) vs → Small (nevers_cells vs)
  unfolding nevers_cells
  small_nevers vs e = small_first (length vs) _ (omega (arith, e.0)) (small_places 22 never_cells (λ v. a_never n v ≡ true) small_never 2 vs e.1)

small_step : (s : Step) → Placed s → Small (step_cells s)
unfolding step_cells
small_step s e =
    let h = step_parts e.0 s e.2 in
    let k = ltb-true _ _ h.0 in
    small_first s.kind _ (omega arith) (small_append (tests_cells s.tests) (nevers_cells s.never) (small_tests e.0 e.1 s.tests h.1) (small_nevers e.0 e.1 s.never h.2))

pub pattern_cells_small : (p : Pattern) → a_pattern p ≡ true → every (λ m. ltb m 18446744073709551616) (pattern_cells p) ≡ true
unfolding pattern_cells
pattern_cells_small p e =
    let h = pattern_parts p e in
    let a = ltb-true _ _ h.2 in
    let b = ltb-true _ _ h.3 in
    small_first p.within _ (omega arith) (small_first p.late _ (omega arith) (small_first (length p.steps) _ (omega (arith, h.0)) (small_places 67 step_cells Placed small_step 6 p.steps h.1)))
