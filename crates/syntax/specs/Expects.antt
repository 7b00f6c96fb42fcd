-- What could have stood where a text is refused.
-- Assumes nothing: these are definitions.
use Rattle.std.specs.Prelude.{ℕ, ◌&&◌, ◌==◌, nat_lt}
use Rattle.timeline.specs.Lists.{pick}
use Rattle.syntax.specs.declared.places.Slot.{Slot}
use Rattle.syntax.specs.declared.places.Slot.TheVariants.{StepKind, NeverKind, Other, Window, Lateness}
use Rattle.syntax.specs.declared.places.Part.{Part}
use Rattle.syntax.specs.declared.places.Part.TheVariants.{Own, OwnDot, What, How, Against, OtherDot, OtherField}
use Rattle.syntax.specs.declared.places.Place.{Place}
use Rattle.syntax.specs.declared.places.Place.TheVariants.{Item, Number, StepName, NeverName, Named, Testing, Tested, LateWord, Whole}
use Rattle.syntax.specs.declared.places.Stand.{Stand}
use Rattle.syntax.specs.declared.places.Stand.TheVariants.{At, Rest, Digits}
use Rattle.syntax.specs.declared.expects.Expected.{Expected}
use Rattle.syntax.specs.declared.expects.Expected.TheVariants.{KindOrNot, KindNotOrWithin, Kind, Within, Name, NameOrEnd, WhereOrEnd, OwnName, Dot, Field, Sign, OnlyNumber, NumberOrName, AndOrEnd, End, LengthOfTime, Late, Nothing, RestOf}

abbrev pub expects_item : ℕ → ℕ → Expected
expects_item steps nevers =
    pick (nat_lt steps 6) (pick (nat_lt nevers 2) (pick (nat_lt 0 steps && nevers == 0) KindNotOrWithin KindOrNot) Kind) Within

abbrev pub expects_number : Slot → Expected
expects_number StepKind = Kind
expects_number NeverKind = Kind
expects_number (Other h f s) = OnlyNumber
expects_number Window = LengthOfTime
expects_number (Lateness w) = LengthOfTime

abbrev pub expects_part : ℕ → Part → ℕ → Expected
expects_part name Own steps = OwnName name
expects_part name OwnDot steps = Dot
expects_part name What steps = Field
expects_part name (How f) steps = Sign
expects_part name (Against f s) steps = pick (steps == 0) OnlyNumber NumberOrName
expects_part name (OtherDot f s i) steps = Dot
expects_part name (OtherField f s i) steps = Field

-- by how many steps are whole, and how many nevers and tests there are
abbrev pub expects_at : Place → ℕ → ℕ → ℕ → Expected
expects_at Item steps nevers tests = expects_item steps nevers
expects_at (Number n) steps nevers tests = expects_number n
expects_at (StepName k) steps nevers tests = Name
expects_at (NeverName k) steps nevers tests = NameOrEnd
expects_at (Named h) steps nevers tests = WhereOrEnd
expects_at (Testing h p) steps nevers tests = expects_part h.name p steps
expects_at (Tested h) steps nevers tests = pick (nat_lt tests 4) AndOrEnd End
expects_at (LateWord w) steps nevers tests = Late
expects_at (Whole w l) steps nevers tests = Nothing

abbrev pub expects : Stand → ℕ → ℕ → ℕ → Expected
expects (At p) steps nevers tests = expects_at p steps nevers tests
expects (Rest w i p) steps nevers tests = RestOf w i
expects (Digits n v) steps nevers tests = expects_number n
