-- What an event brings about, case by case: it is too late, there is no room, or it counts.
use Rattle.std.proofs.Common.{◌≡◌, ℕ, ◌+◌, ◌-◌, true, false, ltb, List, refl}
use Rattle.timeline.specs.declared.events.Event.{Event}
use Rattle.timeline.specs.Lists.{pick}
use Rattle.timeline.specs.Ring.{events}
use Rattle.patterns.specs.Patterns.{Pattern, named}
use Rattle.patterns.specs.Kept.{kept_pattern}
use Rattle.rows.specs.SearchLaws.{begin_at}
use Rattle.listener.specs.declared.head.Phase.TheVariants.{Waiting, Telling, Over}
use Rattle.listener.specs.declared.head.Head.{Head}
use Rattle.listener.specs.Engine.{late, refused}
use Rattle.listener.specs.Machine.{room, memory_of, stepped, tell_from, stale_with, counting, hear, ring_with, telling_head, counted_head, heard}

module _ (p : Pattern) (cells : List ℕ) (means : kept_pattern cells ≡ p) (h : Head) (ring : List ℕ) (e : Event) where
  abbrev here : List Event
  here = events ring h.start h.len

  pub heard_late : ltb e.time (h.latest - p.late) ≡ true → heard h cells ring e ≡ stepped (memory_of Waiting (counted_head h) cells ring) late
  unfolding heard hear
  heard_late q = rw (means, q) refl

  pub heard_full :
      ltb e.time (h.latest - p.late) ≡ false → ltb room (h.len - stale_with p h here e + pick (named p e) 1 0) ≡ true
      → heard h cells ring e ≡ stepped (memory_of Over h cells ring) (refused 8)
  unfolding heard hear
  heard_full q r = rw (means, q, r) refl

  pub heard_counts :
      ltb e.time (h.latest - p.late) ≡ false → ltb room (h.len - stale_with p h here e + pick (named p e) 1 0) ≡ false
      → heard h cells ring e
      ≡ tell_from Telling (telling_head p (counting p h here e) (named p e) (ring_with h e (named p e) ring)) cells (ring_with h e (named p e) ring)
      (begin_at h.known)
  unfolding heard hear
  heard_counts q r = rw (means, q, r) (rw means refl)
