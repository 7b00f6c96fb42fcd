-- What the memory holds while the listener waits: the pattern, how many events came, the latest time, and of the events just those that could
-- still matter. Every other word is 0.
-- Assumes nothing: these are definitions.
use Rattle.std.specs.Prelude.{ℕ, ◌+◌, List, length, replicate}
use Rattle.timeline.specs.declared.events.Event.{Event}
use Rattle.timeline.specs.Lists.{those}
use Rattle.timeline.specs.Order.{sorted, latest}
use Rattle.timeline.specs.Ring.{ring_long, laid}
use Rattle.patterns.specs.Patterns.{Pattern}
use Rattle.patterns.specs.Kept.{pattern_cells}
use Rattle.rows.specs.Known.{heard_to, is_held}
use Rattle.listener.specs.declared.head.Phase.TheVariants.{Waiting}
use Rattle.listener.specs.declared.head.Head.{Head}
use Rattle.listener.specs.Machine.{no_places, memory_of, below_run}

-- the events that have to be held, in the order of time
unfoldable pub held_list : Pattern → List Event → List Event
held_list p es = sorted (those (is_held p (heard_to p es)) es)

-- after n events came and es of them counted, with what is held from slot s on
abbrev pub waiting_head : Pattern → ℕ → List Event → ℕ → Head
waiting_head p n es s =
    record {
      count = n;
      latest = latest es;
      start = s;
      len = length (held_list p es);
      known = below_run (heard_to p es + 1) (held_list p es);
      upto = 0;
      stale = 0;
      at = no_places;
    }

abbrev pub zero_ring : List ℕ
zero_ring = replicate ring_long 0

abbrev pub waiting_memory : Pattern → ℕ → List Event → ℕ → List ℕ
waiting_memory p n es s = memory_of Waiting (waiting_head p n es s) (pattern_cells p) (laid zero_ring s (held_list p es))
