-- The way back: the words of a pattern that may be mean that pattern.
use Rattle.std.proofs.Common.{◌≡◌, ℕ, zero, suc, ◌+◌, ◌*◌, ◌<◌, ◌≤◌, true, ◌&&◌, eqb, ltb, List, [], ◌∷◌, ◌++◌, length, get_or, take, drop, sym, refl, ap, ◌∙◌, subst, ap₂, append_assoc, append-nil, add-zero, mul-suc, arith, get_or-drop, drop-drop}
use Rattle.std.proofs.lemmas.List.{get_or_append_left}
use Rattle.std.proofs.lemmas.Bool.{and_parts}
use Rattle.std.proofs.lemmas.Bool.Decides.{nat_tests}
use Rattle.timeline.specs.Lists.{pick, every, each, none_of, run}
use Rattle.timeline.proofs.Lists.{All, drop_front}
use Rattle.patterns.specs.Patterns.{Test, Never, Step, Pattern}
use Rattle.patterns.specs.Limits.{a_test, a_pattern}
use Rattle.patterns.specs.Kept.{padded, test_cells, tests_cells, never_cells, nevers_cells, step_cells, pattern_cells, at_most, kept_test, kept_tests, kept_never, kept_nevers, kept_pattern}
use Rattle.patterns.specs.Reading.{a_never}
use Rattle.patterns.proofs.Each.{Few, Placed, never_parts, step_parts, pattern_parts}
use Rattle.patterns.proofs.May.{length_test}
use Rattle.patterns.proofs.Wholes.{length_tests_cells, length_never_cells, length_step_cells}

-- words stand at a place
abbrev Stands : List ℕ → ℕ → List ℕ → Type 0
Stands c n xs = (ys : List ℕ) × (drop n c ≡ xs ++ ys)

module _ (c : List ℕ) (n : ℕ) where
  stands_first : (xs zs : List ℕ) → Stands c n (xs ++ zs) → Stands c n xs
  stands_first xs zs s = (zs ++ s.0, s.1 ∙ append_assoc xs zs s.0)

  stands_next : (m : ℕ) (xs zs : List ℕ) → length xs ≡ m → Stands c n (xs ++ zs) → Stands c (n + m) zs
  stands_next m xs zs l s =
      (s.0, sym (drop-drop m n c) ∙ ap (drop m) (s.1 ∙ append_assoc xs zs s.0) ∙ ap (λ k. drop k (xs ++ (zs ++ s.0))) (sym l) ∙ drop_front xs (zs ++ s.0))

  stands_rest : (x : ℕ) (xs : List ℕ) → Stands c n (x ∷ xs) → Stands c (n + 1) xs
  stands_rest x xs s = stands_next 1 (x ∷ []) xs refl s

  stands_at : (xs : List ℕ) (j : ℕ) → j < length xs → Stands c n xs → get_or c (n + j) 0 ≡ get_or xs j 0
  stands_at xs j l s = sym (get_or-drop n c j 0) ∙ ap (λ ys. get_or ys j 0) s.1 ∙ get_or_append_left xs s.0 0 j l

  stands_here : (x : ℕ) (xs : List ℕ) → Stands c n (x ∷ xs) → get_or c n 0 ≡ x
  stands_here x xs s = ap (λ k. get_or c k 0) (sym (add-zero n)) ∙ stands_at (x ∷ xs) 0 (omega arith) s

-- what stands in places of one width is read place by place
module _ {A : Type 0} (w : ℕ) (f : A → List ℕ) (len : (x : A) → length (f x) ≡ w) (P : A → Type 0) (c : List ℕ) (g : ℕ → A)
    (back : (x : A) (n : ℕ) → P x → Stands c n (f x) → g n ≡ x) where
  places_back : (o m i : ℕ) (xs : List A) → length xs ≤ m → All P xs → Stands c (o + w * i) (padded w f m xs) → each (λ j. g (o + w * j)) (run i (length xs)) ≡ xs
  unfolding padded each run
  places_back o m i [] l a s = refl
  places_back o zero i (x ∷ xs) l a s = absurd (omega arith)
  places_back o (suc m) i (x ∷ xs) l a s =
      let e : o + w * i + w ≡ o + w * suc i = omega (arith, mul-suc w i) in
      ap₂ (λ y ys. y ∷ ys) (back x (o + w * i) a.0 (stands_first c (o + w * i) (f x) (padded w f m xs) s))
      (places_back o m (suc i) xs (omega arith) a.1 (subst (λ n. Stands c n (padded w f m xs)) e (stands_next c (o + w * i) w (f x) (padded w f m xs) (len x) s)))

  -- behind their count
  counted_back : (n most : ℕ) (xs : List A) → length xs ≤ most → All P xs → Stands c n (length xs ∷ padded w f most xs)
      → each (λ j. g (n + 1 + w * j)) (run 0 (at_most most (get_or c n 0))) ≡ xs
  counted_back n most xs l a s =
      let k : at_most most (length xs) ≡ length xs = grind (arith, nat_tests) in
      let e : n + 1 ≡ n + 1 + w * 0 = omega arith in
      ap (λ m. each (λ j. g (n + 1 + w * j)) (run 0 (at_most most m))) (stands_here c n (length xs) (padded w f most xs) s)
      ∙ ap (λ m. each (λ j. g (n + 1 + w * j)) (run 0 m)) k
      ∙ places_back (n + 1) most 0 xs l a (subst (λ m. Stands c m (padded w f most xs)) e (stands_rest c n (length xs) (padded w f most xs) s))

one_step : (n o : ℕ) (st : List ℕ) → pick (none_of st) (ltb o 4611686018427387904) (eqb (length st) 1 && (every (λ i. ltb i n) st && ltb o 3)) ≡ true
    → take (length st) (get_or st 0 0 ∷ []) ≡ st
unfolding none_of
one_step n o [] e = refl
one_step n o (i ∷ []) e = refl
one_step n o (i ∷ j ∷ is) e = absurd (grind (arith, nat_tests))

module _ (k : ℕ) (c : List ℕ) where
  test_back : (t : Test) (n : ℕ) → a_test k t ≡ true → Stands c n (test_cells t) → kept_test c n ≡ t
  unfolding test_cells
  test_back t n e s =
      let xs = t.what ∷ t.sign ∷ length t.step ∷ get_or t.step 0 0 ∷ t.other ∷ [] in
      rw (
        stands_here c n t.what (t.sign ∷ length t.step ∷ get_or t.step 0 0 ∷ t.other ∷ []) s,
        stands_at c n xs 1 (omega arith) s,
        stands_at c n xs 2 (omega arith) s,
        stands_at c n xs 3 (omega arith) s,
        stands_at c n xs 4 (omega arith) s,
        one_step k t.other t.step (and_parts (ltb t.what 3 && ltb t.sign 3) _ e).1,
      ) refl

  tests_back : (ts : List Test) (n : ℕ) → Few 4 (a_test k) ts → Stands c n (tests_cells ts) → kept_tests c n ≡ ts
  unfolding tests_cells kept_tests
  tests_back ts n e s = counted_back 5 test_cells length_test (λ t. a_test k t ≡ true) c (kept_test c) test_back n 4 ts e.0 e.1 s

  never_back : (v : Never) (n : ℕ) → a_never k v ≡ true → Stands c n (never_cells v) → kept_never c n ≡ v
  unfolding never_cells
  never_back v n e s =
      rw (stands_here c n v.kind (tests_cells v.tests) s, tests_back v.tests (n + 1) (never_parts k v e).1 (stands_rest c n v.kind (tests_cells v.tests) s)) refl

  nevers_back : (vs : List Never) (n : ℕ) → Few 2 (a_never k) vs → Stands c n (nevers_cells vs) → kept_nevers c n ≡ vs
  unfolding nevers_cells kept_nevers
  nevers_back vs n e s = counted_back 22 never_cells length_never_cells (λ v. a_never k v ≡ true) c (kept_never c) never_back n 2 vs e.0 e.1 s

-- the step whose words begin at a place
abbrev step_from : List ℕ → ℕ → Step
step_from c n = record { kind = get_or c n 0; tests = kept_tests c (n + 1); never = kept_nevers c (n + 22) }

step_back : (c : List ℕ) (t : Step) (n : ℕ) → Placed t → Stands c n (step_cells t) → step_from c n ≡ t
unfolding step_cells
step_back c t n e s =
    let parts = step_parts e.0 t e.2 in
    let ts = tests_cells t.tests in
    let vs = nevers_cells t.never in
    let rest = stands_rest c n t.kind (ts ++ vs) s in
    let d : n + 1 + 21 ≡ n + 22 = omega arith in
    let far = subst (λ m. Stands c m vs) d (stands_next c (n + 1) 21 ts vs (length_tests_cells t.tests) rest) in
    rw (
      stands_here c n t.kind (ts ++ vs) s,
      tests_back e.0 c t.tests (n + 1) parts.1 (stands_first c (n + 1) ts vs rest),
      nevers_back e.0 c t.never (n + 22) parts.2 far,
    ) refl

pub reads_back : (p : Pattern) → a_pattern p ≡ true → kept_pattern (pattern_cells p) ≡ p
unfolding kept_pattern pattern_cells
reads_back p e =
    let parts = pattern_parts p e in
    let places = padded 67 step_cells 6 p.steps in
    let c = p.within ∷ p.late ∷ length p.steps ∷ places in
    let steps = counted_back 67 step_cells length_step_cells Placed c (step_from c) (step_back c) 2 6 p.steps parts.0 parts.1 ([], ap (λ xs. length p.steps ∷ xs) (sym (append-nil places))) in
    ap (λ ss. record { steps = ss; within = p.within; late = p.late }) steps
