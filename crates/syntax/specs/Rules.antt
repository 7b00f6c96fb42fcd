-- The rules of the grammar: where a reader stands after a byte, by where it stood. None: no pattern goes on with this byte.
-- Assumes nothing: these are definitions.
use Rattle.std.specs.Prelude.{ℕ, ◌+◌, ◌-◌, ◌*◌, Bool, not, ◌&&◌, List, length, is_some, Some, None, Option, ◌==◌, nat_lt, slice_index}
use Rattle.std.specs.Option.{option_map}
use Rattle.timeline.specs.Lists.{pick}
use Rattle.patterns.specs.declared.fields.Field.{Field}
use Rattle.patterns.specs.declared.fields.Sign.TheVariants.{Equal, Below, NotBelow}
use Rattle.patterns.specs.Codes.{field_number}
use Rattle.syntax.specs.declared.words.Word.{Word}
use Rattle.syntax.specs.declared.words.Word.TheVariants.{Not, Where, And, Within, Late, Of, AtLeast}
use Rattle.syntax.specs.declared.places.Role.{Role}
use Rattle.syntax.specs.declared.places.Role.TheVariants.{Step, Never}
use Rattle.syntax.specs.declared.places.Head.{Head}
use Rattle.syntax.specs.declared.places.Slot.{Slot}
use Rattle.syntax.specs.declared.places.Slot.TheVariants.{StepKind, NeverKind, Other, Window, Lateness}
use Rattle.syntax.specs.declared.places.Part.{Part}
use Rattle.syntax.specs.declared.places.Part.TheVariants.{Own, OwnDot, What, How, Against, OtherDot, OtherField}
use Rattle.syntax.specs.declared.places.Place.{Place}
use Rattle.syntax.specs.declared.places.Place.TheVariants.{Item, Number, StepName, NeverName, Named, Testing, Tested, LateWord, Whole}
use Rattle.syntax.specs.declared.places.Stand.{Stand}
use Rattle.syntax.specs.declared.places.Stand.TheVariants.{At, Rest, Digits}
use Rattle.patterns.specs.declared.comparing.Comparison.{Comparison}
use Rattle.syntax.specs.declared.moves.Act.{Act}
use Rattle.syntax.specs.declared.moves.Act.TheVariants.{Nothing, Test, EndStep, EndNever}
use Rattle.syntax.specs.declared.moves.Move.{Move}
use Rattle.syntax.specs.Words.{white, digit, letter, spelling, field_begun}
use Rattle.syntax.specs.Names.{step_named}

-- MOVES

-- nothing is added
abbrev pub goes : Stand → Move
goes s = record { stand = s; act = Nothing }

-- behind a word of which the first byte is read
abbrev pub spells : Word → Place → Move
spells w p = goes (Rest w 1 p)

-- a test is whole, a step or a never is whole
abbrev pub adds : Comparison → Stand → Move
adds t s = record { stand = s; act = Test t }

abbrev pub ends : Act → Move
ends a = record { stand = At Item; act = a }

-- what the end of a step or a never adds
abbrev pub ended_as : Role → ℕ → ℕ → Act
ended_as Step k name = EndStep k name
ended_as Never k name = EndNever k

abbrev pub ended : Head → Act
ended h = ended_as h.role h.kind h.name

abbrev pub only_if : Bool → Move → Option Move
only_if b m = pick b (Some m) None

-- NUMBERS

-- which number may stand at a place, where so many steps are whole
abbrev pub slot_of : Place → ℕ → Option Slot
slot_of Item steps = pick (nat_lt steps 6) (Some StepKind) None
slot_of (Number n) steps = Some n
slot_of (StepName k) steps = None
slot_of (NeverName k) steps = None
slot_of (Named h) steps = None
slot_of (Testing h Own) steps = None
slot_of (Testing h OwnDot) steps = None
slot_of (Testing h What) steps = None
slot_of (Testing h (How f)) steps = None
slot_of (Testing h (Against f s)) steps = Some (Other h f s)
slot_of (Testing h (OtherDot f s i)) steps = None
slot_of (Testing h (OtherField f s i)) steps = None
slot_of (Tested h) steps = None
slot_of (LateWord w) steps = None
slot_of (Whole w l) steps = None

-- it is below this
abbrev pub limit : Slot → ℕ
limit StepKind = 65536
limit NeverKind = 65536
limit (Other h f s) = 4611686018427387904
limit Window = 1099511627776
limit (Lateness w) = 1099511627776

-- a digit behind a number so far
abbrev pub counted : Slot → ℕ → ℕ → Option Move
counted n v b = only_if (nat_lt (v * 10 + (b - 48)) (limit n)) (goes (Digits n (v * 10 + (b - 48))))

-- a digit where no number is under way
abbrev pub counts : Option Slot → ℕ → Option Move
counts None b = None
counts (Some n) b = counted n 0 b

-- a number is whole
abbrev pub numbered : Slot → ℕ → Move
numbered StepKind v = goes (At (StepName v))
numbered NeverKind v = goes (At (NeverName v))
numbered (Other h f s) v = adds (record { what = f; sign = s; step = None; other = v }) (At (Tested h))
numbered Window v = goes (At (LateWord v))
numbered (Lateness w) v = goes (At (Whole w v))

-- a number that is under way ends
abbrev pub settle : Stand → Move
settle (At p) = goes (At p)
settle (Rest w i p) = goes (Rest w i p)
settle (Digits n v) = numbered n v

-- NAMES, WORDS AND MARKS, by the names of the steps that are whole, and by how many nevers and tests there are

abbrev pub begins_item : ℕ → ℕ → ℕ → Option Move
begins_item steps nevers b =
    pick (b == 110) (only_if (nat_lt steps 6 && nat_lt nevers 2) (spells Not (Number NeverKind)))
    (pick (b == 119) (only_if (nat_lt 0 steps && nevers == 0) (spells Within (Number Window))) None)

-- a name of its own is none that an earlier step has
abbrev pub begins_name : Role → ℕ → List ℕ → ℕ → Option Move
begins_name role k names b =
    only_if (letter b && not (is_some (step_named b names))) (goes (At (Named (record { role = role; kind = k; name = b }))))

abbrev pub begins_sign : Head → Field → ℕ → Option Move
begins_sign h f b =
    pick (b == 61) (Some (goes (At (Testing h (Against f Equal)))))
    (pick (b == 60) (Some (goes (At (Testing h (Against f Below))))) (pick (b == 62) (Some (spells AtLeast (Testing h (Against f NotBelow)))) None))

abbrev pub begins_part : Head → Part → List ℕ → ℕ → Option Move
begins_part h Own names b = only_if (b == h.name) (goes (At (Testing h OwnDot)))
begins_part h OwnDot names b = only_if (b == 46) (goes (At (Testing h What)))
begins_part h What names b = option_map (λ f. spells (Of f) (Testing h (How f))) (field_begun b)
begins_part h (How f) names b = begins_sign h f b
begins_part h (Against f s) names b = option_map (λ i. goes (At (Testing h (OtherDot f s i)))) (step_named b names)
begins_part h (OtherDot f s i) names b = only_if (b == 46) (goes (At (Testing h (OtherField f s i))))
begins_part h (OtherField f s i) names b =
    option_map (λ g. adds (record { what = f; sign = s; step = Some i; other = field_number g }) (Rest (Of g) 1 (Tested h))) (field_begun b)

abbrev pub begins : Place → List ℕ → ℕ → ℕ → ℕ → Option Move
begins Item names nevers tests b = begins_item (length names) nevers b
begins (Number n) names nevers tests b = None
begins (StepName k) names nevers tests b = begins_name Step k names b
begins (NeverName k) names nevers tests b = pick (b == 59) (Some (ends (EndNever k))) (begins_name Never k names b)
begins (Named h) names nevers tests b = pick (b == 59) (Some (ends (ended h))) (only_if (b == 119) (spells Where (Testing h Own)))
begins (Testing h p) names nevers tests b = begins_part h p names b
begins (Tested h) names nevers tests b = pick (b == 59) (Some (ends (ended h))) (only_if (b == 97 && nat_lt tests 4) (spells And (Testing h Own)))
begins (LateWord w) names nevers tests b = only_if (b == 108) (spells Late (Number (Lateness w)))
begins (Whole w l) names nevers tests b = None

-- A BYTE

-- so many bytes of a word are read
abbrev pub spelled : Word → ℕ → Place → Stand
spelled w i p = pick (nat_lt i (length (spelling w))) (Rest w i p) (At p)

abbrev pub steps_on : Stand → List ℕ → ℕ → ℕ → ℕ → Option Move
steps_on (At p) names nevers tests b =
    pick (digit b) (counts (slot_of p (length names)) b) (pick (white b) (Some (goes (At p))) (begins p names nevers tests b))
steps_on (Rest w i p) names nevers tests b = only_if (nat_lt i (length (spelling w)) && b == slice_index (spelling w) i) (goes (spelled w (i + 1) p))
steps_on (Digits n v) names nevers tests b = pick (digit b) (counted n v b) None
