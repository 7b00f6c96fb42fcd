-- A ring through any changes: Change, changed, changed_ring, fit; and the laws of the ring, as statements that the functions of laws.rt prove.
-- Assumes nothing: these are definitions.
use Rattle.std.specs.Prelude.{◌≡◌, ℕ, ◌+◌, ◌-◌, ◌%◌, ◌<◌, ◌≤◌, Bool, true, ◌&&◌, List, [], ◌∷◌, length, drop, replicate, nat_le, nat_lt}
use Rattle.timeline.specs.declared.events.Event.{Event}
use Rattle.timeline.specs.Lists.{each}
use Rattle.timeline.specs.Order.{put, sorted, nothing, each_heard}
use Rattle.timeline.specs.Ordered.{Ordered}
use Rattle.timeline.specs.Ring.{capacity, ring_long, slot, events, with_put, with_forgotten}

-- an event is put in, or so many are forgotten
pub data Change : Type 0 where
  puts : Event → Change
  forgets : ℕ → Change

-- what a list of events is after changes
unfoldable pub changed : List Event → List Change → List Event
changed es [] = es
changed es (puts e ∷ cs) = changed (put e es) cs
changed es (forgets n ∷ cs) = changed (drop n es) cs

-- a ring as it stands: its numbers, its first slot, and how many are held
pub record Standing : Type 0 where
  pub ring : List ℕ
  pub start : ℕ
  pub len : ℕ

-- no event, in a ring of zeros
abbrev pub empty_at : ℕ → Standing
empty_at start = record { ring = replicate ring_long 0; start = start; len = 0 }

-- what a ring is after changes, each as the function of that name does it
unfoldable pub changed_ring : Standing → List Change → Standing
changed_ring r [] = r
changed_ring r (puts e ∷ cs) = changed_ring (record { ring = with_put r.ring r.start r.len e; start = r.start; len = r.len + 1 }) cs
changed_ring r (forgets n ∷ cs) =
    changed_ring (record { ring = with_forgotten r.ring r.start n; start = (r.start + n) % capacity; len = r.len - n }) cs

-- changes that fit where so many are held: none is put into a full ring, and no more are forgotten than are held
unfoldable pub fit : ℕ → List Change → Bool
fit len [] = true
fit len (puts e ∷ cs) = nat_lt len capacity && fit (len + 1) cs
fit len (forgets n ∷ cs) = nat_le n len && fit (len - n) cs

-- a ring holds these events, in order, and zeros besides
pub record Holds (es : List Event) (r : Standing) : Type 0 where
  pub len : r.len ≡ length es
  pub bound : length es ≤ capacity
  pub list : events r.ring r.start r.len ≡ es
  pub ordered : Ordered es
  pub zeros : (k : ℕ) → r.len ≤ k → k < capacity → slot r.ring (r.start + k) ≡ nothing

-- after any changes that fit, a ring that was empty holds what the list is after them
unfoldable pub ChangesHold : Type 0
ChangesHold = (start : ℕ) (cs : List Change) → fit 0 cs ≡ true → Holds (changed [] cs) (changed_ring (empty_at start) cs)

-- events put in one after the other, as they were heard of, are sorted
unfoldable pub PutsSort : Type 0
PutsSort = (es : List Event) → each_heard 0 es ≡ true → changed [] (each puts es) ≡ sorted es

-- so a ring that was empty holds them sorted
unfoldable pub PutsHeld : Type 0
PutsHeld =
    (start : ℕ) (es : List Event) → each_heard 0 es ≡ true → length es ≤ capacity → Holds (sorted es) (changed_ring (empty_at start) (each puts es))

-- the slots say all: two rings whose slots agree are equal
unfoldable pub SlotsSayAll : Type 0
SlotsSayAll =
    (a b : List ℕ) → length a ≡ ring_long → length b ≡ ring_long → ((i : ℕ) → i < capacity → slot a i ≡ slot b i) → a ≡ b
