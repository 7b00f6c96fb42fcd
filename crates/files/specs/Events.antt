-- Events in bytes: an event is four numbers, its time, its kind, who and its value. Which of them are too large.
-- Assumes nothing: these are definitions.
use Rattle.std.specs.Prelude.{ℕ, suc, Bool, ◌/◌, ◌%◌, List, [], ◌∷◌, map, length, Some, None, Option, Result, Ok, Err, ◌==◌, not, nat_lt, slice_index}
use Rattle.std.specs.Simd.{first_chunks}
use Rattle.timeline.specs.declared.events.Event.{Event}
use Rattle.timeline.specs.Lists.{pick}
use Rattle.patterns.specs.Limits.{an_event}
use Rattle.files.specs.Bytes.{number_in}
use Rattle.files.specs.declared.faults.Part.{Part}
use Rattle.files.specs.declared.faults.Part.TheVariants.{Time, Kind, Who, Value}
use Rattle.files.specs.declared.faults.Fault.{Fault}
use Rattle.files.specs.declared.faults.Fault.TheVariants.{TooLarge, CutOff}

-- the event of a number that 32 bytes say
abbrev pub event_in : ℕ → List ℕ → Event
event_in n bytes =
    let four : List ℕ = map number_in (first_chunks 8 4 bytes) in
    record { heard = n; time = slice_index four 0; kind = slice_index four 1; who = slice_index four 2; value = slice_index four 3 }

-- one event after the other, numbered from n on
unfoldable pub events_from : ℕ → List (List ℕ) → List Event
events_from n [] = []
events_from n (b ∷ bs) = event_in n b ∷ events_from (suc n) bs

-- 32 bytes at a time; fewer than 32 at the end are left out
abbrev pub events_in : List ℕ → List Event
events_in bytes = events_from 0 (first_chunks 32 (length bytes / 32) bytes)

-- whether a part of an event is too large
abbrev pub part_too_large : Event → Part → Bool
part_too_large e Time = not (nat_lt e.time 4611686018427387904)
part_too_large e Kind = not (nat_lt e.kind 65536)
part_too_large e Who = not (nat_lt e.who 4611686018427387904)
part_too_large e Value = not (nat_lt e.value 4611686018427387904)

-- the first part of an event that is too large, none of an event that can be told of
abbrev pub too_large : Event → Option Part
too_large e =
    pick (nat_lt e.time 4611686018427387904)
    (pick (nat_lt e.kind 65536) (pick (nat_lt e.who 4611686018427387904) (pick (nat_lt e.value 4611686018427387904) None (Some Value)) (Some Who)) (Some Kind))
    (Some Time)

-- an event that can be told of, or why it can't
abbrev pub sound_or : Event → Option Part → Result Event Fault
sound_or e None = Ok e
sound_or e (Some part) = Err (TooLarge e.heard part)

abbrev pub sound : Event → Result Event Fault
sound e = sound_or e (too_large e)

-- the events in front of the first that can't be told of
unfoldable pub front_of : List Event → List Event
front_of [] = []
front_of (e ∷ es) = pick (an_event e) (e ∷ front_of es) []

-- what is wrong: the first event that can't be told of; else an event that is cut off, of which so many bytes are there
abbrev pub fault_with : ℕ → Option Part → Option Fault → Option Fault
fault_with n None more = more
fault_with n (Some part) more = Some (TooLarge n part)

unfoldable pub fault_from : ℕ → List Event → ℕ → Option Fault
fault_from n [] left = pick (left == 0) None (Some (CutOff n left))
fault_from n (e ∷ es) left = fault_with n (too_large e) (fault_from (suc n) es left)

abbrev pub fault_in : List ℕ → Option Fault
fault_in bytes = fault_from 0 (events_in bytes) (length bytes % 32)
