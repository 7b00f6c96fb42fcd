-- The listener as a function on its memory. The memory is a phase and 13 words of state, the pattern in 405 words, and a ring of events.
-- Whatever the memory holds, one step of it is defined here.
-- Assumes nothing: these are definitions.
use Rattle.std.specs.Prelude.{ℕ, suc, ◌+◌, ◌-◌, ◌%◌, ◌<◌, ◌≤◌, Bool, true, false, ◌&&◌, List, [], ◌∷◌, ◌++◌, length, take, drop, replicate, Some, None, Option, ◌==◌, nat_le, nat_lt, slice_index}
use Rattle.timeline.specs.declared.events.Event.{Event}
use Rattle.timeline.specs.Lists.{pick}
use Rattle.timeline.specs.Ring.{capacity, events, with_put, with_forgotten}
use Rattle.patterns.specs.Patterns.{Pattern, named}
use Rattle.patterns.specs.Limits.{a_pattern, an_event}
use Rattle.patterns.specs.Kept.{kept_pattern, kept_count, pattern_cells}
use Rattle.rows.specs.declared.search.Cursor.{Cursor}
use Rattle.rows.specs.declared.search.Found.{Found}
use Rattle.rows.specs.Finding.{six, next_found}
use Rattle.rows.specs.SearchLaws.{begin_at}
use Rattle.listener.specs.declared.head.Phase.{Phase}
use Rattle.listener.specs.declared.head.Phase.TheVariants.{New, Waiting, Telling, Ending, Over}
use Rattle.listener.specs.declared.head.Head.{Head}
use Rattle.listener.specs.declared.head.Turn.{Turn}
use Rattle.listener.specs.declared.head.Turn.TheVariants.{Late, Full, Counts}
use Rattle.listener.specs.Engine.{ToldIt, begins, comes, ends, next, Act, tells, waits, late, over, refused, Stepped, Engine}

-- THE MEMORY

abbrev pub memory_long : ℕ
memory_long = 82339

-- the number of each phase
abbrev pub phase_number : Phase → ℕ
phase_number New = 0
phase_number Waiting = 1
phase_number Telling = 2
phase_number Ending = 3
phase_number Over = 4

abbrev pub no_places : List ℕ
no_places = 0 ∷ 0 ∷ 0 ∷ 0 ∷ 0 ∷ 0 ∷ []

abbrev pub head_words : Head → List ℕ
head_words h = h.count ∷ h.latest ∷ h.start ∷ h.len ∷ h.known ∷ h.upto ∷ h.stale ∷ six h.at

abbrev pub memory_of : Phase → Head → List ℕ → List ℕ → List ℕ
memory_of ph h cells ring = (phase_number ph ∷ head_words h) ++ (cells ++ ring)

abbrev pub head_of : List ℕ → Head
head_of m =
    record {
      count = slice_index m 1;
      latest = slice_index m 2;
      start = slice_index m 3;
      len = slice_index m 4;
      known = slice_index m 5;
      upto = slice_index m 6;
      stale = slice_index m 7;
      at = slice_index m 8 ∷ slice_index m 9 ∷ slice_index m 10 ∷ slice_index m 11 ∷ slice_index m 12 ∷ slice_index m 13 ∷ [];
    }

-- the words of the pattern
abbrev pub cells_of : List ℕ → List ℕ
cells_of m = take 405 (drop 14 m)

abbrev pub ring_of : List ℕ → List ℕ
ring_of m = drop 419 m

-- at most so many have to be held between two events
abbrev pub room : ℕ
room = 8192

-- a state that the listener can have written
abbrev pub a_head : Head → Bool
a_head h =
    ((nat_lt h.count 4611686018427387904 && nat_lt h.latest 4611686018427387904) && (nat_lt h.start capacity && nat_le h.len (suc room)))
    && (nat_le h.known h.len && (nat_le h.upto h.len && nat_le h.stale h.len))

-- what such a state is known by
pub record Bounded (h : Head) : Type 0 where
  pub count : h.count < 4611686018427387904
  pub latest : h.latest < 4611686018427387904
  pub start : h.start < capacity
  pub len : h.len ≤ suc room
  pub known : h.known ≤ h.len
  pub upto : h.upto ≤ h.len
  pub stale : h.stale ≤ h.len

-- its events lie in the ring, and no more are stale than there are
pub record InRing (h : Head) : Type 0 where
  pub start : h.start < capacity
  pub len : h.len ≤ capacity
  pub stale : h.stale ≤ h.len

-- what a state is known by in which rows are about to be told
pub record Ready (h : Head) : Type 0 where
  pub latest : h.latest < 4611686018427387904
  pub start : h.start < capacity
  pub len : h.len ≤ suc room
  pub known : h.known ≤ h.len
  pub stale : h.stale ≤ h.len

abbrev pub ReadyTurn : Turn → Type 0
ReadyTurn Late = Unit {0}
ReadyTurn Full = Unit {0}
ReadyTurn (Counts h b) = Ready h

-- the state, where it is one and the phase is this
unfoldable pub head_at : Phase → List ℕ → Option Head
head_at ph m = pick (slice_index m 0 == phase_number ph && a_head (head_of m)) (Some (head_of m)) None

abbrev pub stepped : List ℕ → Act → Stepped
stepped m a = record { memory = m; act = a }

-- what follows of a check that hands on its value, or leaves
abbrev pub with_some : {A B : Type 0} → Option A → B → (A → B) → B
with_some None b f = b
with_some (Some x) b f = f x

-- TELLING

-- the search behind the row that was told last
abbrev pub cursor_of : List ℕ → Head → Cursor
cursor_of cells h = record { depth = kept_count cells - 1; at = h.at }

abbrev pub phase_after : Phase → Phase
phase_after New = Waiting
phase_after Waiting = Waiting
phase_after Telling = Waiting
phase_after Ending = Over
phase_after Over = Waiting

abbrev pub act_after : Phase → Act
act_after New = waits
act_after Waiting = waits
act_after Telling = waits
act_after Ending = over
act_after Over = waits

-- the state when all rows are told: the stale events are forgotten
abbrev pub settled_head : Head → Head
settled_head h =
    record {
      count = h.count;
      latest = h.latest;
      start = (h.start + h.stale) % capacity;
      len = h.len - h.stale;
      known = h.upto - h.stale;
      upto = 0;
      stale = 0;
      at = no_places;
    }

abbrev pub settled : Phase → Head → List ℕ → List ℕ → Stepped
settled ph h cells ring =
    stepped (memory_of (phase_after ph) (settled_head h) cells (with_forgotten ring h.start h.stale)) (act_after ph)

abbrev pub with_places : Head → List ℕ → Head
with_places h at =
    record {
      count = h.count;
      latest = h.latest;
      start = h.start;
      len = h.len;
      known = h.known;
      upto = h.upto;
      stale = h.stale;
      at = at;
    }

abbrev pub told_or_settled : Phase → Head → List ℕ → List ℕ → Option Found → Stepped
told_or_settled ph h cells ring None = settled ph h cells ring
told_or_settled ph h cells ring (Some f) =
    stepped (memory_of ph (with_places h f.next.at) cells ring) (tells (take (kept_count cells) f.numbers))

-- the next row from a cursor on; where there is none, the telling is done with
unfoldable pub tell_from : Phase → Head → List ℕ → List ℕ → Cursor → Stepped
tell_from ph h cells ring c =
    told_or_settled ph h cells ring (next_found (events ring h.start h.len) (kept_pattern cells) h.upto c)

-- WHAT IT IS TOLD

abbrev pub blank : Head
blank = record { count = 0; latest = 0; start = 0; len = 0; known = 0; upto = 0; stale = 0; at = no_places }

-- a pattern
unfoldable pub begun : List ℕ → Pattern → Stepped
begun m p =
    with_some (head_at New m) (stepped m (refused 2))
    (λ h. pick (a_pattern p) (stepped (memory_of Waiting blank (pattern_cells p) (ring_of m)) waits) (stepped m (refused 1)))

-- how many events at the front of a list have a time below a bound
unfoldable pub below_run : ℕ → List Event → ℕ
below_run b [] = 0
below_run b (e ∷ es) = pick (nat_lt e.time b) (suc (below_run b es)) 0

-- the greatest time once an event has counted
abbrev pub latest_with : Head → Event → ℕ
latest_with h e = pick (nat_lt h.latest e.time) e.time h.latest

-- how many of the held events could not matter any more after it
abbrev pub stale_with : Pattern → Head → List Event → Event → ℕ
stale_with p h es e = below_run (latest_with h e - p.late - p.within) es

abbrev pub counting : Pattern → Head → List Event → Event → Head
counting p h es e =
    record {
      count = h.count + 1;
      latest = latest_with h e;
      start = h.start;
      len = h.len;
      known = h.known;
      upto = h.upto;
      stale = stale_with p h es e;
      at = h.at;
    }

-- what an event brings about, given the pattern and the held events
unfoldable pub hear : Pattern → Head → List Event → Event → Turn
hear p h es e =
    pick (nat_lt e.time (h.latest - p.late)) Late
    (pick (nat_lt room (h.len - stale_with p h es e + pick (named p e) 1 0)) Full (Counts (counting p h es e) (named p e)))

-- the ring and the state with an event that has to be held put in where it belongs
abbrev pub ring_with : Head → Event → Bool → List ℕ → List ℕ
ring_with h e true ring = with_put ring h.start h.len e
ring_with h e false ring = ring

abbrev pub len_with : Head → Bool → ℕ
len_with h true = h.len + 1
len_with h false = h.len

-- the state with the last events to be told of: those behind the known ones whose time is not above what is heard to
abbrev pub telling_head : Pattern → Head → Bool → List ℕ → Head
telling_head p h b ring =
    record {
      count = h.count;
      latest = h.latest;
      start = h.start;
      len = len_with h b;
      known = h.known;
      upto = h.known + below_run (h.latest - p.late + 1) (drop h.known (events ring h.start (len_with h b)));
      stale = h.stale;
      at = h.at;
    }

-- what it tells then
abbrev pub newly_told : Head → List ℕ → List ℕ → Stepped
newly_told h cells ring = tell_from Telling (telling_head (kept_pattern cells) h false ring) cells ring (begin_at h.known)

abbrev pub counted_head : Head → Head
counted_head h =
    record {
      count = h.count + 1;
      latest = h.latest;
      start = h.start;
      len = h.len;
      known = h.known;
      upto = h.upto;
      stale = h.stale;
      at = h.at;
    }

abbrev pub turned : Head → List ℕ → List ℕ → Event → Turn → Stepped
turned h cells ring e Late = stepped (memory_of Waiting (counted_head h) cells ring) late
turned h cells ring e Full = stepped (memory_of Over h cells ring) (refused 8)
turned h cells ring e (Counts h₁ b) =
    tell_from Telling (telling_head (kept_pattern cells) h₁ b (ring_with h₁ e b ring)) cells (ring_with h₁ e b ring) (begin_at h₁.known)

unfoldable pub heard : Head → List ℕ → List ℕ → Event → Stepped
heard h cells ring e = turned h cells ring e (hear (kept_pattern cells) h (events ring h.start h.len) e)

abbrev pub event_of : ℕ → ℕ → ℕ → ℕ → ℕ → Event
event_of n t k w v = record { heard = n; time = t; kind = k; who = w; value = v }

-- an event
unfoldable pub came : List ℕ → ℕ → ℕ → ℕ → ℕ → Stepped
came m t k w v =
    with_some (head_at Waiting m) (stepped m (refused 2))
    (λ h.
    pick (an_event (event_of h.count t k w v)) (heard h (cells_of m) (ring_of m) (event_of h.count t k w v)) (stepped m (refused 2)))

-- all held events may be last ones now, and all are forgotten afterwards
abbrev pub ending_head : Head → Head
ending_head h =
    record {
      count = h.count;
      latest = h.latest;
      start = h.start;
      len = h.len;
      known = h.known;
      upto = h.len;
      stale = h.len;
      at = h.at;
    }

-- nothing more comes
unfoldable pub ended : List ℕ → Stepped
ended m =
    with_some (head_at Waiting m) (stepped m (refused 2))
    (λ h. tell_from Ending (ending_head h) (cells_of m) (ring_of m) (begin_at h.known))

abbrev pub resumed : Phase → List ℕ → Head → Stepped
resumed ph m h = tell_from ph h (cells_of m) (ring_of m) (cursor_of (cells_of m) h)

-- go on
unfoldable pub gone_on : List ℕ → Stepped
gone_on m = with_some (head_at Telling m) (with_some (head_at Ending m) (stepped m (refused 2)) (resumed Ending m)) (resumed Telling m)

unfoldable pub machine : List ℕ → ToldIt → Stepped
machine m (begins p) = begun m p
machine m (comes t k w v) = came m t k w v
machine m ends = ended m
machine m next = gone_on m

-- THE LISTENER
unfoldable pub own : Engine
own = record { start = replicate memory_long 0; step = λ m ev. pick (length m == memory_long) (machine m ev) (stepped m (refused 2)) }
