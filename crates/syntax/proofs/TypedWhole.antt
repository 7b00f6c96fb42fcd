-- A pattern that is written is read as itself.
use Rattle.std.proofs.Common.{◌≡◌, ℕ, suc, ◌+◌, ◌<◌, ◌≤◌, true, ◌&&◌, eqb, ltb, leb, List, [], ◌∷◌, ◌++◌, length, codes, decimal, sym, refl, ap, ◌∙◌, subst, append_assoc, append-nil, arith, length-append}
use Rattle.std.proofs.lemmas.Bool.{and_parts, eq-eqb, lt-ltb, ltb-true, leb-true}
use Rattle.timeline.specs.Lists.{every, flat, run}
use Rattle.patterns.specs.Patterns.{Never, Step, Pattern}
use Rattle.patterns.specs.Limits.{a_test, some_tests, a_step, some_steps, a_pattern}
use Rattle.patterns.specs.Reading.{a_never}
use Rattle.syntax.specs.declared.places.Slot.TheVariants.{NeverKind, Window, Lateness}
use Rattle.syntax.specs.declared.places.Place.TheVariants.{Item, Number}
use Rattle.syntax.specs.declared.places.Stand.TheVariants.{At, Digits}
use Rattle.syntax.specs.Reading.{Built, means, runs, reads}
use Rattle.syntax.specs.Typed.{typed_never, typed_step, typed_steps, typed}
use Rattle.syntax.proofs.Letters.{length_run, run_push}
use Rattle.syntax.proofs.Passing.{st, Passes, then, pass_number}
use Rattle.syntax.proofs.TypedItems.{passes_to, step_item, never_item}

-- steps that are whole under their letters, and nevers of the next
abbrev after : List Step → List Never → Built
after ss vs = record { steps = ss; names = run 97 (length ss); nevers = vs; tests = [] }

not_on : (w : Built) → length w.names < 6 → length w.nevers < 2 → Passes (st (At Item) w) (codes "not ") (st (At (Number NeverKind)) w)
unfolding runs
not_on w l m =
    let a : ltb (length w.names) 6 ≡ true = lt-ltb _ _ l in
    let b : ltb (length w.nevers) 2 ≡ true = lt-ltb _ _ m in
    record { on = λ at rest. (at + 1 + 1 + 1 + 1, rw (a, b)) }

module _ (ss : List Step) (few : length ss < 6) where
  never_pass : (vs : List Never) (v : Never) → length vs < 2 → a_never (length ss) v ≡ true → Passes (st (At Item) (after ss vs)) (typed_never v) (st (At Item) (after ss (vs ++ (v ∷ []))))
  never_pass vs v l e =
      let n = length ss in
      let both = and_parts (ltb v.kind 65536) (some_tests n v.tests) e in
      let tests = and_parts (leb (length v.tests) 4) (every (a_test n) v.tests) both.1 in
      then (codes "not ") _ (not_on (after ss vs) (rw (length_run 97 n) few) l)
      (never_item v.kind n (after ss vs) v.tests (ltb-true _ _ both.0) refl tests.1 (leb-true _ _ tests.0) refl few)

  nevers_pass : (us vs : List Never) → length us + length vs ≤ 2 → every (a_never (length ss)) vs ≡ true → Passes (st (At Item) (after ss us)) (flat typed_never vs) (st (At Item) (after ss (us ++ vs)))
  unfolding flat every
  nevers_pass us [] l e = passes_to _ _ (ap (λ vs. st (At Item) (after ss vs)) (sym (append-nil us))) (record { on = λ at rest. (at, refl) })
  nevers_pass us (v ∷ vs) l e =
      let both = and_parts (a_never (length ss) v) (every (a_never (length ss)) vs) e in
      let room : length (us ++ (v ∷ [])) + length vs ≤ 2 = rw (length-append us (v ∷ [])) (omega arith) in
      then (typed_never v) (flat typed_never vs) (never_pass us v (omega arith) both.0)
      (passes_to _ _ (ap (λ ws. st (At Item) (after ss ws)) (append_assoc us (v ∷ []) vs)) (nevers_pass (us ++ (v ∷ [])) vs room both.1))

  step_pass : (s : Step) → a_step (length ss) s ≡ true → Passes (st (At Item) (after ss [])) (typed_step (length ss) s) (st (At Item) (after (ss ++ (s ∷ [])) []))
  step_pass s e =
      let n = length ss in
      let both = and_parts (ltb s.kind 65536 && some_tests n s.tests) (leb (length s.never) 2 && every (a_never n) s.never) e in
      let front = and_parts (ltb s.kind 65536) (some_tests n s.tests) both.0 in
      let tests = and_parts (leb (length s.tests) 4) (every (a_test n) s.tests) front.1 in
      let nevers = and_parts (leb (length s.never) 2) (every (a_never n) s.never) both.1 in
      let room : 0 + length s.never ≤ 2 = omega (arith, leb-true (length s.never) 2 nevers.0) in
      let more : run 97 n ++ ((97 + n) ∷ []) ≡ run 97 (length (ss ++ (s ∷ []))) = run_push 97 n ∙ ap (run 97) (omega (arith, length-append ss (s ∷ []))) in
      passes_to _ _ (ap (λ names. st (At Item) (record { steps = ss ++ (s ∷ []); names = names; nevers = []; tests = [] })) more)
      (
      then (flat typed_never s.never) _ (nevers_pass [] s.never room nevers.1)
      (step_item s.kind n (after ss s.never) s.tests (ltb-true _ _ front.0) refl tests.1 (leb-true _ _ tests.0) refl few)
      )

steps_pass : (ss rest : List Step) → length ss + length rest ≤ 6 → some_steps (length ss) rest ≡ true → Passes (st (At Item) (after ss [])) (typed_steps (length ss) rest) (st (At Item) (after (ss ++ rest) []))
unfolding typed_steps some_steps
steps_pass ss [] l e = passes_to _ _ (ap (λ xs. st (At Item) (after xs [])) (sym (append-nil ss))) (record { on = λ at rest. (at, refl) })
steps_pass ss (s ∷ rest) l e =
    let both = and_parts (a_step (length ss) s) (some_steps (suc (length ss)) rest) e in
    let long : length (ss ++ (s ∷ [])) ≡ suc (length ss) = omega (arith, length-append ss (s ∷ [])) in
    let room : length (ss ++ (s ∷ [])) + length rest ≤ 6 = omega arith in
    then (typed_step (length ss) s) _ (step_pass ss (omega arith) s both.0)
    (
    passes_to _ _ (ap (λ xs. st (At Item) (after xs [])) (append_assoc ss (s ∷ []) rest))
    (subst (λ n. Passes (st (At Item) (after (ss ++ (s ∷ [])) [])) (typed_steps n rest) (st (At Item) (after ((ss ++ (s ∷ [])) ++ rest) []))) long (steps_pass (ss ++ (s ∷ [])) rest room (rw long both.1)))
    )

-- THE END

pub within_on : (w : Built) → 0 < length w.names → length w.nevers ≡ 0 → Passes (st (At Item) w) (codes "within ") (st (At (Number Window)) w)
unfolding runs
within_on w l e =
    let a : ltb 0 (length w.names) ≡ true = lt-ltb _ _ l in
    let b : eqb (length w.nevers) 0 ≡ true = eq-eqb _ _ e in
    record { on = λ at rest. (at + 1 + 1 + 1 + 1 + 1 + 1 + 1, rw (a, b)) }

late_on : (v : ℕ) (w : Built) → Passes (st (Digits Window v) w) (codes " late ") (st (At (Number (Lateness v))) w)
unfolding runs
late_on v w = record { on = λ at rest. (at + 1 + 1 + 1 + 1 + 1 + 1, refl) }

end_means : (at v l : ℕ) (w : Built) → runs at (st (Digits (Lateness v) l) w) [] ≡ means (record { steps = w.steps; within = v; late = l })
unfolding runs
end_means at v l w = refl

pub typed_means : (p : Pattern) → a_pattern p ≡ true → reads (typed p) ≡ means p
unfolding run
typed_means p e =
    let both = and_parts (leb 1 (length p.steps) && leb (length p.steps) 6) (some_steps 0 p.steps && (ltb p.within 1099511627776 && ltb p.late 1099511627776)) e in
    let count = and_parts (leb 1 (length p.steps)) (leb (length p.steps) 6) both.0 in
    let rest = and_parts (some_steps 0 p.steps) (ltb p.within 1099511627776 && ltb p.late 1099511627776) both.1 in
    let times = and_parts (ltb p.within 1099511627776) (ltb p.late 1099511627776) rest.1 in
    let w = after p.steps [] in
    let some : 0 < length w.names = rw (length_run 97 (length p.steps)) (leb-true _ _ count.0) in
    let few : 0 + length p.steps ≤ 6 = omega (arith, leb-true (length p.steps) 6 count.1) in
    let whole : Passes (st (At Item) (after [] [])) (typed p) (st (Digits (Lateness p.within) p.late) w) =
    then (typed_steps 0 p.steps) _ (steps_pass [] p.steps few rest.0)
    (
    then (codes "within ") _ (within_on w some refl)
    (
    then (decimal p.within) _ (pass_number (Number Window) Window w refl p.within (ltb-true _ _ times.0) (omega arith))
    (then (codes " late ") (decimal p.late) (late_on p.within w) (pass_number (Number (Lateness p.within)) (Lateness p.within) w refl p.late (ltb-true _ _ times.1) (omega arith)))
    )
    ) in
    let x = whole.on 0 [] in
    ap (runs 0 (st (At Item) (after [] []))) (sym (append-nil (typed p))) ∙ x.1 ∙ end_means x.0 p.within p.late w
