-- The row of a pattern that may be says that pattern.
use Rattle.std.proofs.Common.{◌≡◌, ℕ, suc, ◌+◌, ◌*◌, true, ◌&&◌, eqb, ltb, leb, List, [], ◌∷◌, ◌++◌, length, get_or, take, drop, sym, refl, ap, ◌∙◌, append_assoc, append-nil, arith, length-append}
use Rattle.std.proofs.lemmas.List.{drop_at}
use Rattle.std.proofs.lemmas.Bool.{and_parts, eqb-true}
use Rattle.timeline.specs.Lists.{pick, every, none_of, flat}
use Rattle.patterns.specs.Patterns.{Test, Never, Step, Pattern}
use Rattle.patterns.specs.Kept.{test_cells}
use Rattle.patterns.specs.Limits.{a_test, some_tests, a_step, some_steps, a_pattern}
use Rattle.patterns.specs.Numbers.{tests_in, nevers_in, nevers_long, steps_in, pattern_in}
use Rattle.patterns.specs.Reading.{a_never}
use Rattle.syntax.specs.Rows.{never_row, step_row, pattern_row}
use Rattle.syntax.proofs.Room.{tests_long}

-- a test's earlier step is none or one
step_back : (n : ℕ) (is : List ℕ) (x : ℕ) → pick (none_of is) (ltb x 4611686018427387904) (eqb (length is) 1 && (every (λ i. ltb i n) is && ltb x 3)) ≡ true → take (length is) (get_or is 0 0 ∷ []) ≡ is
unfolding none_of
step_back n [] x e = refl
step_back n (i ∷ []) x e = refl
step_back n (i ∷ j ∷ is) x e = let l = eqb-true (length (i ∷ j ∷ is)) 1 (and_parts (eqb (length (i ∷ j ∷ is)) 1) _ e).0 in absurd (omega arith)

test_back : (n : ℕ) (t : Test) → a_test n t ≡ true
    → record { what = t.what; sign = t.sign; step = take (length t.step) (get_or t.step 0 0 ∷ []); other = t.other } ≡ t
test_back n t e = ap (λ is. record { what = t.what; sign = t.sign; step = is; other = t.other }) (step_back n t.step t.other (and_parts (ltb t.what 3 && ltb t.sign 3) _ e).1)

tests_back : (n : ℕ) (ts : List Test) (rest : List ℕ) → every (a_test n) ts ≡ true → tests_in (length ts) (flat test_cells ts ++ rest) ≡ ts
unfolding tests_in flat every test_cells
tests_back n [] rest e = refl
tests_back n (t ∷ ts) rest e =
    let both = and_parts (a_test n t) (every (a_test n) ts) e in
    ap (λ x. x ∷ tests_in (length ts) (flat test_cells ts ++ rest)) (test_back n t both.0) ∙ ap (λ xs. t ∷ xs) (tests_back n ts rest both.1)

-- what stands behind tests, where a kind and a count stand in front of them
after_tests : (a b : ℕ) (ts : List Test) (rest : List ℕ) → drop (2 + 5 * length ts) (a ∷ b ∷ (flat test_cells ts ++ rest)) ≡ rest
after_tests a b ts rest = drop_at (a ∷ b ∷ flat test_cells ts) rest _ (omega (arith, tests_long ts))

nevers_back : (n : ℕ) (vs : List Never) (rest : List ℕ) → every (a_never n) vs ≡ true → nevers_in (length vs) (flat never_row vs ++ rest) ≡ vs
unfolding nevers_in flat every
nevers_back n [] rest e = refl
nevers_back n (v ∷ vs) rest e =
    let both = and_parts (a_never n v) (every (a_never n) vs) e in
    let tests = (and_parts (leb (length v.tests) 4) (every (a_test n) v.tests) (and_parts (ltb v.kind 65536) (some_tests n v.tests) both.0).1).1 in
    rw (append_assoc (flat test_cells v.tests) (flat never_row vs) rest, after_tests v.kind (length v.tests) v.tests (flat never_row vs ++ rest), tests_back n v.tests (flat never_row vs ++ rest) tests, nevers_back n vs rest both.1)

nevers_far : (vs : List Never) (rest : List ℕ) → nevers_long (length vs) (flat never_row vs ++ rest) ≡ length (flat never_row vs)
unfolding nevers_long flat
nevers_far [] rest = refl
nevers_far (v ∷ vs) rest =
    rw (append_assoc (flat test_cells v.tests) (flat never_row vs) rest, after_tests v.kind (length v.tests) v.tests (flat never_row vs ++ rest), nevers_far vs rest, length-append (flat test_cells v.tests) (flat never_row vs))
    (omega (arith, tests_long v.tests))

-- what stands behind nevers, where their count stands in front of them
after_nevers : (a : ℕ) (vs : List Never) (rest : List ℕ) → drop (1 + length (flat never_row vs)) (a ∷ (flat never_row vs ++ rest)) ≡ rest
after_nevers a vs rest = drop_at (a ∷ flat never_row vs) rest _ (omega arith)

-- a step's row in parts
step_parts : (s : Step) (more rest : List ℕ)
    → (step_row s ++ more) ++ rest ≡ s.kind ∷ length s.tests ∷ (flat test_cells s.tests ++ (length s.never ∷ (flat never_row s.never ++ (more ++ rest))))
step_parts s more rest = simp append_assoc

steps_back : (n : ℕ) (ss : List Step) (rest : List ℕ) → some_steps n ss ≡ true → steps_in (length ss) (flat step_row ss ++ rest) ≡ ss
unfolding steps_in flat some_steps
steps_back n [] rest e = refl
steps_back n (s ∷ ss) rest e =
    let both = and_parts (a_step n s) (some_steps (suc n) ss) e in
    let parts = and_parts (ltb s.kind 65536 && some_tests n s.tests) (leb (length s.never) 2 && every (a_never n) s.never) both.0 in
    let tests = (and_parts (leb (length s.tests) 4) (every (a_test n) s.tests) (and_parts (ltb s.kind 65536) (some_tests n s.tests) parts.0).1).1 in
    let nevers = (and_parts (leb (length s.never) 2) (every (a_never n) s.never) parts.1).1 in
    let far = flat step_row ss ++ rest in
    let behind = length s.never ∷ (flat never_row s.never ++ far) in
    rw (step_parts s (flat step_row ss) rest, after_tests s.kind (length s.tests) s.tests behind, tests_back n s.tests behind tests)
    (rw (nevers_back n s.never far nevers, nevers_far s.never far, after_nevers (length s.never) s.never far, steps_back (suc n) ss rest both.1))

pub pattern_back : (p : Pattern) → a_pattern p ≡ true → pattern_in (pattern_row p) ≡ p
pattern_back p e =
    let both = and_parts (leb 1 (length p.steps) && leb (length p.steps) 6) _ e in
    let steps = (and_parts (some_steps 0 p.steps) _ both.1).0 in
    ap (λ ss. record { steps = ss; within = p.within; late = p.late }) (ap (steps_in (length p.steps)) (sym (append-nil (flat step_row p.steps))) ∙ steps_back 0 p.steps [] steps)
