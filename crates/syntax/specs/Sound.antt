-- What holds of a reader wherever it stands: what is read so far may be in a pattern, and there is room for what may come next.
-- Assumes nothing: these are definitions.
use Rattle.std.specs.Prelude.{◌≡◌, ℕ, ◌<◌, ◌≤◌, true, length, Some, None, Option}
use Rattle.timeline.specs.Lists.{every}
use Rattle.patterns.specs.Limits.{a_test, some_steps}
use Rattle.patterns.specs.Reading.{a_never}
use Rattle.syntax.specs.declared.places.Role.{Role}
use Rattle.syntax.specs.declared.places.Role.TheVariants.{Step, Never}
use Rattle.syntax.specs.declared.places.Head.{Head}
use Rattle.syntax.specs.declared.places.Slot.{Slot}
use Rattle.syntax.specs.declared.places.Slot.TheVariants.{StepKind, NeverKind, Other, Window, Lateness}
use Rattle.syntax.specs.declared.places.Part.{Part}
use Rattle.syntax.specs.declared.places.Part.TheVariants.{Own, OwnDot, What, How, Against, OtherDot, OtherField}
use Rattle.syntax.specs.declared.places.Place.{Place}
use Rattle.syntax.specs.declared.places.Place.TheVariants.{Item, Number, StepName, NeverName, Named, Testing, Tested, LateWord, Whole}
use Rattle.syntax.specs.declared.places.Stand.{Stand}
use Rattle.syntax.specs.declared.places.Stand.TheVariants.{At, Rest, Digits}
use Rattle.syntax.specs.declared.moves.Act.{Act}
use Rattle.syntax.specs.declared.moves.Act.TheVariants.{Nothing, Test, EndStep, EndNever}
use Rattle.syntax.specs.declared.moves.Move.{Move}
use Rattle.syntax.specs.Words.{letter, spelling}
use Rattle.syntax.specs.Rules.{limit}
use Rattle.patterns.specs.Codes.{test_of}
use Rattle.syntax.specs.Reading.{Built, State, with_act}

-- what is read may be in a pattern
pub record Fine (w : Built) : Type 0 where
  pub names : length w.names ≡ length w.steps
  pub steps : some_steps 0 w.steps ≡ true
  pub steps_few : length w.steps ≤ 6
  pub nevers : every (a_never (length w.steps)) w.nevers ≡ true
  pub nevers_few : length w.nevers ≤ 2
  pub tests : every (a_test (length w.steps)) w.tests ≡ true
  pub tests_few : length w.tests ≤ 4

-- a never is among two at most
abbrev pub FineRole : Role → ℕ → Type 0
FineRole Step nevers = Unit {0}
FineRole Never nevers = nevers < 2

-- a step or a never that is under way may be, and there is room for it
pub record FineHead (h : Head) (w : Built) : Type 0 where
  pub kind : h.kind < 65536
  pub steps : length w.names < 6
  pub nevers : FineRole h.role (length w.nevers)

abbrev pub FineSlot : Slot → Built → Type 0
FineSlot StepKind w = (length w.names < 6) × (length w.tests ≡ 0)
FineSlot NeverKind w = (length w.names < 6) × (length w.nevers < 2) × (length w.tests ≡ 0)
FineSlot (Other h f s) w = FineHead h w × (letter h.name ≡ true) × (length w.tests < 4)
FineSlot Window w = 0 < length w.names
FineSlot (Lateness t) w = (t < 1099511627776) × (0 < length w.names)

abbrev pub FinePart : Part → Built → Type 0
FinePart Own w = Unit {0}
FinePart OwnDot w = Unit {0}
FinePart What w = Unit {0}
FinePart (How f) w = Unit {0}
FinePart (Against f s) w = Unit {0}
FinePart (OtherDot f s i) w = i < length w.names
FinePart (OtherField f s i) w = i < length w.names

abbrev pub FinePlace : Place → Built → Type 0
FinePlace Item w = (length w.tests ≡ 0) × (6 ≤ length w.names → length w.nevers ≡ 0)
FinePlace (Number n) w = FineSlot n w
FinePlace (StepName k) w = (k < 65536) × (length w.names < 6) × (length w.tests ≡ 0)
FinePlace (NeverName k) w = (k < 65536) × (length w.names < 6) × (length w.nevers < 2) × (length w.tests ≡ 0)
FinePlace (Named h) w = FineHead h w × (letter h.name ≡ true) × (length w.tests ≡ 0)
FinePlace (Testing h p) w = FineHead h w × (letter h.name ≡ true) × (length w.tests < 4) × FinePart p w
FinePlace (Tested h) w = FineHead h w × (letter h.name ≡ true)
FinePlace (LateWord t) w = (t < 1099511627776) × (0 < length w.names)
FinePlace (Whole t l) w = (t < 1099511627776) × (l < 1099511627776) × (0 < length w.names)

abbrev pub FineStand : Stand → Built → Type 0
FineStand (At p) w = FinePlace p w
FineStand (Rest x i p) w = FinePlace p w × (i < length (spelling x))
FineStand (Digits n v) w = FineSlot n w × (v < limit n)

-- what is added may be, and there is room for it
abbrev pub FineAct : Act → Built → Type 0
FineAct Nothing w = Unit {0}
FineAct (Test t) w = (length w.tests < 4) × (a_test (length w.steps) (test_of t) ≡ true)
FineAct (EndStep k name) w = (k < 65536) × (length w.names < 6)
FineAct (EndNever k) w = (k < 65536) × (length w.names < 6) × (length w.nevers < 2)

pub record FineMove (w : Built) (m : Move) : Type 0 where
  pub act : FineAct m.act w
  pub stand : FineStand m.stand (with_act w m.act)

-- if there is a move, it is fine
abbrev pub Fits : Built → Option Move → Type 0
Fits w None = Unit {0}
Fits w (Some m) = FineMove w m

pub record Sound (s : State) : Type 0 where
  pub built : Fine s.built
  pub stand : FineStand s.stand s.built
