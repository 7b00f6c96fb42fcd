-- A step or a never that is written is read as itself.
use Rattle.std.proofs.Common.{◌≡◌, ℕ, ◌+◌, ◌<◌, ◌≤◌, true, false, ltb, List, [], ◌∷◌, ◌++◌, length, Some, None, codes, decimal, sym, refl, ap, ◌∙◌, subst, append_assoc, append-nil, arith, length-append}
use Rattle.std.proofs.lemmas.Bool.{and_parts, lt-ltb}
use Rattle.timeline.specs.Lists.{every, run}
use Rattle.patterns.specs.Patterns.{Test}
use Rattle.patterns.specs.Limits.{a_test}
use Rattle.syntax.specs.declared.places.Role.TheVariants.{Step, Never}
use Rattle.syntax.specs.declared.places.Head.{Head}
use Rattle.syntax.specs.declared.places.Slot.TheVariants.{StepKind, NeverKind}
use Rattle.syntax.specs.declared.places.Part.TheVariants.{Own}
use Rattle.syntax.specs.declared.places.Place.TheVariants.{Item, Number, StepName, NeverName, Named, Testing, Tested}
use Rattle.syntax.specs.declared.places.Stand.TheVariants.{At, Digits}
use Rattle.syntax.specs.declared.moves.Act.TheVariants.{EndStep, EndNever}
use Rattle.syntax.specs.Words.{digit}
use Rattle.syntax.specs.Names.{step_named}
use Rattle.syntax.specs.Rules.{goes, ended, slot_of}
use Rattle.syntax.specs.Reading.{Built, State, with_act, runs}
use Rattle.syntax.specs.Typed.{step_letter, never_letter, typed_test, typed_more, typed_tests, typed_item}
use Rattle.syntax.proofs.Letters.{Lettered, lettered, length_run, not_found}
use Rattle.syntax.proofs.Passing.{st, Passes, then, pass_begin, pass_number}
use Rattle.syntax.proofs.TypedTests.{Before, test_before, with_test}

-- a text begins with a byte that is no digit
pub record Starts (xs : List ℕ) : Type 0 where
  pub byte : ℕ
  pub rest : List ℕ
  pub digit : digit byte ≡ false
  pub is : xs ≡ byte ∷ rest

-- a part that ends before such a byte, and what follows
before_then : {s t u : State} (xs ys : List ℕ) → Before s xs t → Starts ys → Passes t ys u → Passes s (xs ++ ys) u
before_then {s} {t} {u} xs ys p b q =
    record {
      on =
          λ at rest.
          let begins : ys ++ rest ≡ b.byte ∷ (b.rest ++ rest) = ap (λ zs. zs ++ rest) b.is in
          let x = p.on at b.byte (b.rest ++ rest) b.digit in
          let y = q.on x.0 rest in
          (y.0, ap (runs at s) (append_assoc xs ys rest ∙ ap (λ zs. xs ++ zs) begins) ∙ x.1 ∙ ap (runs x.0 t) (sym begins) ∙ y.1);
    }

pub passes_as : {s t : State} (xs ys : List ℕ) → xs ≡ ys → Passes s xs t → Passes s ys t
passes_as {s} {t} xs ys e p = subst (λ zs. Passes s zs t) e p

pub passes_to : {s : State} {xs : List ℕ} (t u : State) → t ≡ u → Passes s xs t → Passes s xs u
passes_to {s} {xs} t u e p = subst (λ v. Passes s xs v) e p

more_starts : (own : ℕ) (ts : List Test) → Starts (typed_more own ts ++ codes "; ")
unfolding typed_more
more_starts own [] = record { byte = 59; rest = 32 ∷ []; digit = refl; is = refl }
more_starts own (t ∷ ts) = record { byte = 32; rest = _; digit = refl; is = refl }

-- what is read, with these tests
abbrev pub with_tests : Built → List Test → Built
with_tests w ts = record { steps = w.steps; names = w.names; nevers = w.nevers; tests = w.tests ++ ts }

module _ (h : Head) (n : ℕ) (own : Lettered h.name) (few : n ≤ 6) where
  end_tested : (w : Built) → Passes (st (At (Tested h)) w) (codes "; ") (st (At Item) (with_act w (ended h)))
  unfolding runs
  end_tested w = record { on = λ at rest. (at + 1 + 1, refl) }

  end_named : (w : Built) → Passes (st (At (Named h)) w) (codes "; ") (st (At Item) (with_act w (ended h)))
  unfolding runs
  end_named w = record { on = λ at rest. (at + 1 + 1, refl) }

  and_on : (w : Built) → length w.tests < 4 → Passes (st (At (Tested h)) w) (codes " and ") (st (At (Testing h Own)) w)
  unfolding runs
  and_on w l = let e : ltb (length w.tests) 4 ≡ true = lt-ltb _ _ l in record { on = λ at rest. (at + 1 + 1 + 1 + 1 + 1, rw e) }

  where_on : (w : Built) → Passes (st (At (Named h)) w) (codes " where ") (st (At (Testing h Own)) w)
  unfolding runs
  where_on w = record { on = λ at rest. (at + 1 + 1 + 1 + 1 + 1 + 1 + 1, refl) }

  -- a test, and what follows it
  test_then : (t : Test) (ts : List Test) (w : Built) (u : State) → w.names ≡ run 97 n → a_test n t ≡ true → Passes (st (At (Tested h)) (with_test w t)) (typed_more h.name ts ++ codes "; ") u
      → Passes (st (At (Testing h Own)) w) ((typed_test h.name t ++ typed_more h.name ts) ++ codes "; ") u
  test_then t ts w u e k p =
      passes_as _ _ (sym (append_assoc (typed_test h.name t) (typed_more h.name ts) (codes "; "))) (before_then (typed_test h.name t) _ (test_before w h n t own e few k) (more_starts h.name ts) p)

  tests_joined : (w : Built) (t : Test) (ts : List Test) → ◌≡◌ {A = State} (st (At Item) (with_act (with_tests (with_test w t) ts) (ended h))) (st (At Item) (with_act (with_tests w (t ∷ ts)) (ended h)))
  tests_joined w t ts =
      ap (λ us. st (At Item) (with_act (record { steps = w.steps; names = w.names; nevers = w.nevers; tests = us }) (ended h))) (append_assoc w.tests (t ∷ []) ts)

  more_pass : (ts : List Test) (w : Built) → w.names ≡ run 97 n → every (a_test n) ts ≡ true → length w.tests + length ts ≤ 4
      → Passes (st (At (Tested h)) w) (typed_more h.name ts ++ codes "; ") (st (At Item) (with_act (with_tests w ts) (ended h)))
  unfolding typed_more every
  more_pass [] w e k l =
      passes_to _ _ (ap (λ ts. st (At Item) (with_act (record { steps = w.steps; names = w.names; nevers = w.nevers; tests = ts }) (ended h))) (sym (append-nil w.tests))) (end_tested w)
  more_pass (t ∷ ts) w e k l =
      let both = and_parts (a_test n t) (every (a_test n) ts) k in
      let room : length (w.tests ++ (t ∷ [])) + length ts ≤ 4 = rw (length-append w.tests (t ∷ [])) (omega arith) in
      then (codes " and ") _ (and_on w (omega arith))
      (test_then t ts w _ e both.0 (passes_to _ _ (tests_joined w t ts) (more_pass ts (with_test w t) e both.1 room)))

  tests_pass : (ts : List Test) (w : Built) → w.names ≡ run 97 n → every (a_test n) ts ≡ true → length ts ≤ 4 → w.tests ≡ []
      → Passes (st (At (Named h)) w) (typed_tests h.name ts ++ codes "; ") (st (At Item) (with_act (with_tests w ts) (ended h)))
  unfolding every
  tests_pass [] w e k l z =
      passes_to _ _ (ap (λ ts. st (At Item) (with_act (record { steps = w.steps; names = w.names; nevers = w.nevers; tests = ts }) (ended h))) (sym (append-nil w.tests))) (end_named w)
  tests_pass (t ∷ ts) w e k l z =
      let both = and_parts (a_test n t) (every (a_test n) ts) k in
      let none : length w.tests ≡ 0 = ap length z in
      let room : length (w.tests ++ (t ∷ [])) + length ts ≤ 4 = rw (length-append w.tests (t ∷ [])) (omega arith) in
      then (codes " where ") _ (where_on w)
      (test_then t ts w _ e both.0 (passes_to _ _ (tests_joined w t ts) (more_pass ts (with_test w t) e both.1 room)))

-- A KIND, A NAME AND TESTS

pub step_space : (k : ℕ) (w : Built) → Passes (st (Digits StepKind k) w) (32 ∷ []) (st (At (StepName k)) w)
unfolding runs
step_space k w = record { on = λ at rest. (at + 1, refl) }

never_space : (k : ℕ) (w : Built) → Passes (st (Digits NeverKind k) w) (32 ∷ []) (st (At (NeverName k)) w)
unfolding runs
never_space k w = record { on = λ at rest. (at + 1, refl) }

module _ (k n : ℕ) (w : Built) (ts : List Test) (kind : k < 65536) (names : w.names ≡ run 97 n) (may : every (a_test n) ts ≡ true) (most : length ts ≤ 4) (none : w.tests ≡ []) where
  pub step_item : n < 6 → Passes (st (At Item) w) (typed_item k (step_letter n) ts) (st (At Item) (with_act (with_tests w ts) (EndStep k (97 + n))))
  step_item l =
      let same : 97 + n ≡ step_letter n = omega arith in
      let h : Head = record { role = Step; kind = k; name = 97 + n } in
      let letter = lettered (97 + n) (omega arith) (omega arith) in
      let there : ltb (length w.names) 6 ≡ true = lt-ltb _ _ (rw names (rw (length_run 97 n) l)) in
      let new : step_named (97 + n) w.names ≡ None = rw names (not_found 0 97 n (97 + n) (omega arith)) in
      let is-letter = letter.letter in
      let slot : slot_of Item (length w.names) ≡ Some StepKind = rw there in
      subst (λ own. Passes (st (At Item) w) (typed_item k own ts) (st (At Item) (with_act (with_tests w ts) (ended h)))) same
      (
      then (decimal k) _ (pass_number Item StepKind w slot k kind (omega arith))
      (
      then (32 ∷ []) _ (step_space k w)
      (
      then ((97 + n) ∷ []) _ (pass_begin (97 + n) (StepName k) w (goes (At (Named h))) letter.digit letter.white (rw (is-letter, new)))
      (tests_pass h n letter (omega arith) ts w names may most none)
      )
      )
      )

  pub never_item : n < 6 → Passes (st (At (Number NeverKind)) w) (typed_item k never_letter ts) (st (At Item) (with_act (with_tests w ts) (EndNever k)))
  never_item l =
      let h : Head = record { role = Never; kind = k; name = never_letter } in
      let new : step_named never_letter w.names ≡ None = rw names (not_found 0 97 n never_letter (omega arith)) in
      then (decimal k) _ (pass_number (Number NeverKind) NeverKind w refl k kind (omega arith))
      (
      then (32 ∷ []) _ (never_space k w)
      (
      then (never_letter ∷ []) _ (pass_begin never_letter (NeverName k) w (goes (At (Named h))) refl refl (rw new))
      (tests_pass h n (lettered never_letter (omega arith) (omega arith)) (omega arith) ts w names may most none)
      )
      )
