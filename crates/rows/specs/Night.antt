-- A night, worked through: a door is opened, and then a lamp is lit by the same one, with no guard on his round in between. What is heard
-- to, what is too late and what becomes known, event by event. Statements; the function of night.rt owes their proof. Assumes nothing.
use Rattle.std.specs.Prelude.{◌≡◌, ℕ, ◌+◌, Bool, true, false, List, [], ◌∷◌, length, take, drop}
use Rattle.timeline.specs.declared.events.Event.{Event}
use Rattle.timeline.specs.Lists.{each, run}
use Rattle.timeline.specs.Order.{nth}
use Rattle.patterns.specs.Patterns.{Pattern}
use Rattle.patterns.specs.Limits.{a_pattern}
use Rattle.patterns.specs.Numbers.{pattern_in}
use Rattle.rows.specs.Rows.{all_rows}
use Rattle.rows.specs.Known.{heard_to, too_late, known_rows, newly, counted}

-- within 60, late 20, two steps: a door, with no tests and no nevers; a lamp, with one test, that who is equal to who of step 0, and one
-- never, a guard with no tests
abbrev pub door_then_lamp : Pattern
door_then_lamp = pattern_in (60 ∷ 20 ∷ 2 ∷ 1 ∷ 0 ∷ 0 ∷ 2 ∷ 1 ∷ 0 ∷ 0 ∷ 1 ∷ 0 ∷ 0 ∷ 1 ∷ 3 ∷ 0 ∷ [])

abbrev door : ℕ → ℕ → Event
door who time = record { heard = 0; time = time; kind = 1; who = who; value = 0 }

abbrev lamp : ℕ → ℕ → Event
lamp who time = record { heard = 0; time = time; kind = 2; who = who; value = 0 }

abbrev guard : ℕ → ℕ → Event
guard who time = record { heard = 0; time = time; kind = 3; who = who; value = 0 }

-- the events in the order in which one hears of them; their numbers are 0 to 7
abbrev pub night : List Event
night = door 7 100 ∷ lamp 7 130 ∷ guard 1 110 ∷ door 8 150 ∷ door 7 125 ∷ lamp 8 160 ∷ lamp 8 155 ∷ door 9 200 ∷ []

-- what counts of the first n
abbrev pub first_heard : ℕ → List Event
first_heard n = counted door_then_lamp (take n night)

-- what an event does: whether it is too late, what is heard to with it, and which rows become known by it
pub record Turn : Type 0 where
  pub late : Bool
  pub mark : ℕ
  pub told : List (List ℕ)

abbrev pub turn : ℕ → Turn
turn n =
    record {
      late = too_late door_then_lamp (first_heard n) (nth night n);
      mark = heard_to door_then_lamp (first_heard (n + 1));
      told = newly door_then_lamp (first_heard n) (first_heard (n + 1));
    }

abbrev in_time : ℕ → Turn
in_time mark = record { late = false; mark = mark; told = [] }

-- the table of the night. The lamp of 160 and that of 155 both make a row with the door of 150; the door of 125 comes too late. By the end
-- all rows are known
unfoldable pub WorkedNight : Type 0
WorkedNight =
    (a_pattern door_then_lamp ≡ true)
    × (each turn (run 0 8) ≡
    in_time 80
    ∷ in_time 110
    ∷ in_time 110
    ∷ in_time 130
    ∷ record { late = true; mark = 130; told = [] }
    ∷ in_time 140
    ∷ in_time 140
    ∷ record { late = false; mark = 180; told = (3 ∷ 6 ∷ []) ∷ (3 ∷ 5 ∷ []) ∷ [] }
    ∷ [])
    × (drop (length (known_rows door_then_lamp (first_heard 8))) (all_rows door_then_lamp (first_heard 8)) ≡ [])
