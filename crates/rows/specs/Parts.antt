-- What two parts of five numbers an event hold.
-- Assumes nothing: these are definitions.
use Rattle.std.specs.Prelude.{ℕ, List, ◌++◌, map}
use Rattle.timeline.specs.declared.events.Event.{Event}
use Rattle.timeline.specs.Ring.{event_at}
use Rattle.rows.specs.declared.held.Held.TheInside.{Inside}

-- five numbers as an event
abbrev pub event_of : List ℕ → Event
event_of numbers = event_at numbers 0

-- the events of both parts, one after the other
abbrev pub in_parts : Inside → List Event
in_parts parts = map event_of parts.front.now ++ map event_of parts.back.now
