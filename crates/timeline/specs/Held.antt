-- What a call does to a ring and its span: Put, Forgot, Parted.
-- Assumes nothing: these are definitions.
use Rattle.std.specs.Prelude.{◌≡◌, ℕ, ◌+◌, ◌-◌, ◌*◌, ◌%◌, ◌<◌, ◌≤◌, min, List, ◌++◌, length, drop}
use Rattle.timeline.specs.declared.events.Event.{Event}
use Rattle.timeline.specs.declared.spans.Span.{Span}
use Rattle.timeline.specs.Order.{put, nothing}
use Rattle.timeline.specs.Ordered.{put_last, Ordered}
use Rattle.timeline.specs.Ring.{capacity, slot, events, decode, with_put, with_forgotten, front_part, back_part}

-- the events of a span
abbrev pub held_in : List ℕ → Span → List Event
held_in ring span = events ring span.start span.len

-- an event was put in: one more is held, in its place, and every slot outside is as it was
pub record Put (e : Event) (was is : List ℕ) (from to : Span) : Type 0 where
  pub start : to.start ≡ from.start
  pub len : to.len ≡ from.len + 1
  pub after : is ≡ with_put was from.start from.len e
  pub list : held_in is to ≡ put_last e (held_in was from)
  pub others : (k : ℕ) → from.len < k → k < capacity → slot is (from.start + k) ≡ slot was (from.start + k)
  pub belongs : Ordered (held_in was from) → held_in is to ≡ put e (held_in was from)
  pub ordered : Ordered (held_in was from) → Ordered (held_in is to)

-- the first n were forgotten: the others are held, zeros stand where they were, and every other slot is as it was
pub record Forgot (n : ℕ) (was is : List ℕ) (from to : Span) : Type 0 where
  pub start : to.start ≡ (from.start + n) % capacity
  pub len : to.len ≡ from.len - n
  pub after : is ≡ with_forgotten was from.start n
  pub list : held_in is to ≡ drop n (held_in was from)
  pub zeros : (k : ℕ) → k < n → slot is (from.start + k) ≡ nothing
  pub others : (k : ℕ) → n ≤ k → k < capacity → slot is (from.start + k) ≡ slot was (from.start + k)
  pub ordered : Ordered (held_in was from) → Ordered (held_in is to)

-- two parts of a ring that have the numbers of what is held, one after the other
pub record Parted (ring : List ℕ) (span : Span) (front back : List ℕ) : Type 0 where
  pub front_is : front ≡ front_part ring span.start span.len
  pub back_is : back ≡ back_part ring span.start span.len
  pub front_len : length front ≡ (min (span.start + span.len) capacity - span.start) * 5
  pub back_len : length back ≡ (span.start + span.len - capacity) * 5
  pub list : decode front ++ decode back ≡ held_in ring span
