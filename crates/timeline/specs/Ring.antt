-- A ring of events in a row of numbers: a power of two of slots of five numbers each, counted round.
-- Assumes nothing: these are definitions.
use Rattle.std.specs.Prelude.{ℕ, ◌+◌, ◌-◌, ◌*◌, ◌%◌, min, List, [], ◌∷◌, map, take, drop, replicate, slice_index, slice_set}
use Rattle.std.specs.List.{range_with_len}
use Rattle.timeline.specs.declared.events.Event.{Event}
use Rattle.timeline.specs.Order.{nothing}
use Rattle.timeline.specs.Ordered.{put_last}

-- how many slots a ring has
abbrev pub capacity : ℕ
capacity = 16384

-- how many numbers: five a slot
abbrev pub ring_long : ℕ
ring_long = 81920

-- the five numbers from n on, as an event
abbrev pub event_at : List ℕ → ℕ → Event
event_at ring n =
    record { heard = slice_index ring n; time = slice_index ring (n + 1); kind = slice_index ring (n + 2); who = slice_index ring (n + 3); value = slice_index ring (n + 4) }

-- an event as its five numbers, which event_at reads
abbrev pub numbers_of : Event → List ℕ
numbers_of e = e.heard ∷ e.time ∷ e.kind ∷ e.who ∷ e.value ∷ []

-- the ring with the five numbers of e from n on
abbrev pub with_event : List ℕ → ℕ → Event → List ℕ
with_event ring n e =
    slice_set (slice_set (slice_set (slice_set (slice_set ring n e.heard) (n + 1) e.time) (n + 2) e.kind) (n + 3) e.who) (n + 4) e.value

-- the event in slot i, counted round
abbrev pub slot : List ℕ → ℕ → Event
slot ring i = event_at ring (i % capacity * 5)

-- the events of so many slots from one on
abbrev pub events : List ℕ → ℕ → ℕ → List Event
events ring start len = map (slot ring) (range_with_len start len)

-- the ring with these events in the slots from one on, and all others as they were
unfoldable pub laid : List ℕ → ℕ → List Event → List ℕ
laid ring at [] = ring
laid ring at (e ∷ es) = laid (with_event ring (at % capacity * 5) e) (at + 1) es

-- numbers five at a time, as events; fewer than five at the end are left out
abbrev pub decode : List ℕ → List Event
decode [] = []
decode (h ∷ []) = []
decode (h ∷ t ∷ []) = []
decode (h ∷ t ∷ k ∷ []) = []
decode (h ∷ t ∷ k ∷ w ∷ []) = []
decode (h ∷ t ∷ k ∷ w ∷ v ∷ rest) = record { heard = h; time = t; kind = k; who = w; value = v } ∷ decode rest

-- the ring with an event put in among those held, in the slots from one on
abbrev pub with_put : List ℕ → ℕ → ℕ → Event → List ℕ
with_put ring start len e = laid ring start (put_last e (events ring start len))

-- the ring with so many slots from one on forgotten: zeros stand in them
abbrev pub with_forgotten : List ℕ → ℕ → ℕ → List ℕ
with_forgotten ring start n = laid ring start (replicate n nothing)

-- what is held, as the numbers of two parts of the ring: from the first slot to the end of the ring at most, and the rest from its beginning on
abbrev pub front_part : List ℕ → ℕ → ℕ → List ℕ
front_part ring start len = take ((min (start + len) capacity - start) * 5) (drop (start * 5) ring)

abbrev pub back_part : List ℕ → ℕ → ℕ → List ℕ
back_part ring start len = take ((start + len - capacity) * 5) ring
