-- What is added to what is read is fine.
use Rattle.std.proofs.Common.{◌≡◌, ℕ, suc, ◌+◌, ◌<◌, Bool, true, List, [], ◌∷◌, ◌++◌, length, refl, ◌∙◌, arith, length-append}
use Rattle.std.proofs.lemmas.Bool.{and_parts, and_from, lt-ltb, le-leb}
use Rattle.std.proofs.lemmas.List.Recursion.{and_push}
use Rattle.timeline.specs.Lists.{every}
use Rattle.patterns.specs.Patterns.{Step}
use Rattle.patterns.specs.Limits.{a_test, a_step, some_steps}
use Rattle.patterns.specs.Reading.{a_never}
use Rattle.syntax.specs.declared.moves.Act.{Act}
use Rattle.syntax.specs.declared.moves.Act.TheVariants.{Nothing, Test, EndStep, EndNever}
use Rattle.syntax.specs.declared.moves.Move.{Move}
use Rattle.patterns.specs.Codes.{test_of}
use Rattle.syntax.specs.Reading.{Built, with_never, with_step, with_act, moved}
use Rattle.syntax.specs.Sound.{Fine, FineAct, FineMove, Sound}

every_push : {A : Type 0} (f : A → Bool) (xs : List A) (x : A) → every f xs ≡ true → f x ≡ true → every f (xs ++ (x ∷ [])) ≡ true
unfolding every
every_push f xs x a b = and_push (every f) f refl (λ y ys. refl) xs x ∙ and_from _ _ a b

steps_push : (n : ℕ) (ss : List Step) (s : Step) → some_steps n ss ≡ true → a_step (n + length ss) s ≡ true → some_steps n (ss ++ (s ∷ [])) ≡ true
unfolding some_steps
steps_push n [] s a b = let e : n + 0 ≡ n = omega arith in and_from (a_step n s) true (rw e at b) refl
steps_push n (t ∷ ts) s a b =
    let e : n + suc (length ts) ≡ suc n + length ts = omega arith in
    let both = and_parts (a_step n t) (some_steps (suc n) ts) a in
    and_from (a_step n t) _ both.0 (steps_push (suc n) ts s both.1 (rw e at b))

fine_never : (w : Built) (k : ℕ) → Fine w → k < 65536 → length w.nevers < 2 → Fine (with_never w k)
unfolding every
fine_never w k f l m =
    record {
      names = f.names;
      steps = f.steps;
      steps_few = f.steps_few;
      nevers = every_push (a_never (length w.steps)) w.nevers (record { kind = k; tests = w.tests }) f.nevers (and_from _ _ (lt-ltb _ _ l) (and_from _ _ (le-leb _ _ f.tests_few) f.tests));
      nevers_few = rw length-append (omega arith);
      tests = refl;
      tests_few = omega arith;
    }

fine_step : (w : Built) (k name : ℕ) → Fine w → k < 65536 → length w.names < 6 → Fine (with_step w k name)
unfolding every
fine_step w k name f l m =
    record {
      names = rw (length-append, length-append) (let e = f.names in omega arith);
      steps = steps_push 0 w.steps (record { kind = k; tests = w.tests; never = w.nevers }) f.steps (
          let e : 0 + length w.steps ≡ length w.steps = omega arith in
          rw e (
          and_from _ _ (and_from _ _ (lt-ltb _ _ l) (and_from _ _ (le-leb _ _ f.tests_few) f.tests))
          (and_from _ _ (le-leb _ _ f.nevers_few) f.nevers)
          )
          );
      steps_few = rw length-append (let e = f.names in omega arith);
      nevers = refl;
      nevers_few = omega arith;
      tests = refl;
      tests_few = omega arith;
    }

pub fine_act : (w : Built) (a : Act) → Fine w → FineAct a w → Fine (with_act w a)
fine_act w Nothing f g = f
fine_act w (Test t) f g =
    record {
      names = f.names;
      steps = f.steps;
      steps_few = f.steps_few;
      nevers = f.nevers;
      nevers_few = f.nevers_few;
      tests = every_push (a_test (length w.steps)) w.tests (test_of t) f.tests g.1;
      tests_few = rw length-append (omega (arith, g.0));
    }
fine_act w (EndStep k name) f g = fine_step w k name f g.0 g.1
fine_act w (EndNever k) f g = fine_never w k f g.0 g.2

pub sound_move : (w : Built) (m : Move) → Fine w → FineMove w m → Sound (moved w m)
sound_move w m f g = record { built = fine_act w m.act f g.act; stand = g.stand }
