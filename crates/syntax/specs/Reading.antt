-- What a text reads as: a pattern, or the byte at which no pattern can go on and what could have stood there.
-- Assumes nothing: these are definitions.
use Rattle.std.specs.Prelude.{ℕ, ◌+◌, List, [], ◌∷◌, ◌++◌, length, Some, None, Option}
use Rattle.std.specs.Option.{option_map}
use Rattle.timeline.specs.Lists.{pick}
use Rattle.patterns.specs.Patterns.{Test, Never, Step, Pattern}
use Rattle.patterns.specs.Codes.{test_of}
use Rattle.syntax.specs.declared.places.Place.TheVariants.{Item, Number, StepName, NeverName, Named, Testing, Tested, LateWord, Whole}
use Rattle.syntax.specs.declared.places.Stand.{Stand}
use Rattle.syntax.specs.declared.places.Stand.TheVariants.{At, Rest, Digits}
use Rattle.syntax.specs.declared.moves.Act.{Act}
use Rattle.syntax.specs.declared.moves.Act.TheVariants.{Nothing, Test as Adds, EndStep, EndNever}
use Rattle.syntax.specs.declared.moves.Move.{Move}
use Rattle.syntax.specs.declared.expects.Expected.{Expected}
use Rattle.syntax.specs.Words.{digit}
use Rattle.syntax.specs.Rules.{settle, steps_on}
use Rattle.syntax.specs.Expects.{expects}

-- WHAT IS READ OF A PATTERN

-- the steps that are whole, with their names; the nevers that are whole, of the step to come; the tests that are whole, of the step or never
-- that is under way
pub record Built : Type 0 where
  pub steps : List Step
  pub names : List ℕ
  pub nevers : List Never
  pub tests : List Test

abbrev pub with_never : Built → ℕ → Built
with_never w kind = record { steps = w.steps; names = w.names; nevers = w.nevers ++ (record { kind = kind; tests = w.tests } ∷ []); tests = [] }

abbrev pub with_step : Built → ℕ → ℕ → Built
with_step w kind name =
    record {
      steps = w.steps ++ (record { kind = kind; tests = w.tests; never = w.nevers } ∷ []);
      names = w.names ++ (name ∷ []);
      nevers = [];
      tests = [];
    }

abbrev pub with_act : Built → Act → Built
with_act w Nothing = w
with_act w (Adds t) = record { steps = w.steps; names = w.names; nevers = w.nevers; tests = w.tests ++ (test_of t ∷ []) }
with_act w (EndStep kind name) = with_step w kind name
with_act w (EndNever kind) = with_never w kind

-- A BYTE

pub record State : Type 0 where
  pub stand : Stand
  pub built : Built

abbrev pub moved : Built → Move → State
moved w m = record { stand = m.stand; built = with_act w m.act }

-- a number that is under way ends
abbrev pub settled : State → State
settled s = moved s.built (settle s.stand)

-- it ends before any byte that is no digit
abbrev pub ready : ℕ → State → State
ready b s = pick (digit b) s (settled s)

abbrev pub next : ℕ → State → Option State
next b s = option_map (moved s.built) (steps_on s.stand s.built.names (length s.built.nevers) (length s.built.tests) b)

abbrev pub wanted : State → Expected
wanted s = expects s.stand (length s.built.names) (length s.built.nevers) (length s.built.tests)

-- A TEXT

pub data Reading : Type 0 where
  means : Pattern → Reading
  refused : ℕ → Expected → Reading

-- the window and the lateness, where nothing is awaited any more
abbrev pub whole : Stand → Option (ℕ × ℕ)
whole (At Item) = None
whole (At (Number n)) = None
whole (At (StepName k)) = None
whole (At (NeverName k)) = None
whole (At (Named h)) = None
whole (At (Testing h p)) = None
whole (At (Tested h)) = None
whole (At (LateWord w)) = None
whole (At (Whole w l)) = Some (w, l)
whole (Rest w i p) = None
whole (Digits n v) = None

-- a value by whether there is one
abbrev pub by_some : {A B : Type 0} → Option A → B → (A → B) → B
by_some None b f = b
by_some (Some a) b f = f a

abbrev pub ended : ℕ → State → Reading
ended at s = by_some (whole s.stand) (refused at (wanted s)) (λ t. means (record { steps = s.built.steps; within = t.0; late = t.1 }))

-- the bytes from one on
unfoldable pub runs : ℕ → State → List ℕ → Reading
runs at s [] = ended at (settled s)
runs at s (b ∷ bs) = by_some (next b (ready b s)) (refused at (wanted (settled (ready b s)))) (λ t. runs (at + 1) t bs)

abbrev pub begun : State
begun = record { stand = At Item; built = record { steps = []; names = []; nevers = []; tests = [] } }

abbrev pub reads : List ℕ → Reading
reads text = runs 0 begun text
