-- What the listener writes as it tells rows and as an event comes: a memory as long as it has to be, and of small numbers if it was.
use Rattle.std.proofs.Common.{◌≡◌, ℕ, suc, ◌+◌, ◌-◌, ◌≤◌, Bool, true, false, ltb, List, length, replicate, Some, None, Option, refl, ◌∙◌}
use Rattle.timeline.specs.declared.events.Event.{Event}
use Rattle.timeline.specs.Lists.{pick}
use Rattle.timeline.specs.Order.{nothing}
use Rattle.timeline.specs.Ordered.{put_last}
use Rattle.timeline.specs.Ring.{ring_long, events, with_forgotten}
use Rattle.timeline.proofs.Laid.{laid_long}
use Rattle.patterns.specs.Patterns.{Pattern, named}
use Rattle.patterns.specs.Kept.{kept_pattern}
use Rattle.rows.specs.Finding.{next_found}
use Rattle.rows.specs.SearchLaws.{begin_at}
use Rattle.rows.specs.declared.search.Cursor.{Cursor}
use Rattle.rows.specs.declared.search.Found.{Found}
use Rattle.listener.specs.declared.head.Phase.{Phase}
use Rattle.listener.specs.declared.head.Phase.TheVariants.{Waiting, Telling, Over}
use Rattle.listener.specs.declared.head.Head.{Head}
use Rattle.listener.specs.declared.head.Turn.TheVariants.{Late, Full, Counts}
use Rattle.listener.specs.Machine.{Bounded, memory_long, memory_of, room, phase_after, settled_head, with_places, told_or_settled, tell_from, stale_with, counting, hear, ring_with, telling_head, counted_head, turned, heard}
use Rattle.listener.proofs.Words.{memory_length}
use Rattle.listener.proofs.Small.{Small, Smalls, SmallEvent, put_in_small, forgotten_small, SmallHead, memory_small}
use Rattle.listener.proofs.SmallHeads.{settled_small, places_put, counted_small, counting_small, telling_small, begin_small}
use Rattle.listener.proofs.Cursors.{places_small}

-- THE PARTS OF A MEMORY THAT IS WRITTEN

-- the pattern's words and the ring are as long as they have to be, and, if a memory was small, all of them and the state
pub record Parts (small : Type 0) (h : Head) (cells ring : List ℕ) : Type 0 where
  pub wide : length cells ≡ 405
  pub long : length ring ≡ ring_long
  pub state : small → SmallHead h
  pub words : small → Smalls cells
  pub slots : small → Smalls ring

-- what a memory is that is put together of them
pub record Written (small : Type 0) (m : List ℕ) : Type 0 where
  pub long : length m ≡ memory_long
  pub smalls : small → Smalls m

module _ {small : Type 0} (ph : Phase) (h : Head) (cells ring : List ℕ) (s : Parts small h cells ring) where
  pub written : Written small (memory_of ph h cells ring)
  written =
      record {
        long = memory_length ph h cells ring s.wide s.long;
        smalls = λ a. memory_small ph h cells ring (s.state a) (s.words a) (s.slots a);
      }

-- a row told, or all settled
module _ {small : Type 0} (ph : Phase) (h : Head) (cells ring : List ℕ) (s : Parts small h cells ring) (c : Cursor) (at : small → Smalls c.at) where
  told_written :
      (o : Option Found) → next_found (events ring h.start h.len) (kept_pattern cells) h.upto c ≡ o
      → Written small (told_or_settled ph h cells ring o).memory
  told_written None e =
      written (phase_after ph) (settled_head h) cells (with_forgotten ring h.start h.stale)
      record {
        wide = s.wide;
        long = laid_long ring h.start (replicate h.stale nothing) ∙ s.long;
        state = λ a. settled_small h (s.state a);
        words = s.words;
        slots = λ a. forgotten_small ring h.start h.stale (s.slots a);
      }
  told_written (Some f) e =
      written ph (with_places h f.next.at) cells ring
      record {
        wide = s.wide;
        long = s.long;
        state =
            λ a. places_put h f.next.at (s.state a)
            (places_small (events ring h.start h.len) (kept_pattern cells) h.upto c f e (s.state a).upto (at a));
        words = s.words;
        slots = s.slots;
      }

  pub tell_written : Written small (tell_from ph h cells ring c).memory
  unfolding tell_from
  tell_written = told_written (next_found (events ring h.start h.len) (kept_pattern cells) h.upto c) refl

-- AN EVENT

module _ {small : Type 0} (h : Head) (cells ring : List ℕ) (e : Event) (k : Bounded h) (s : Parts small h cells ring)
    (event : SmallEvent e) (time : Small e.time) where
  ring_long_with : (g : Head) (b : Bool) → length (ring_with g e b ring) ≡ ring_long
  ring_long_with g true = laid_long ring g.start (put_last e (events ring g.start g.len)) ∙ s.long
  ring_long_with g false = s.long

  ring_small_with : (g : Head) (b : Bool) → small → Smalls (ring_with g e b ring)
  ring_small_with g true a = put_in_small ring g.start g.len e (s.slots a) event
  ring_small_with g false a = s.slots a

  -- an event that counts, with the state that it brings about
  counts_written :
      (g : Head) (b : Bool) → g.len ≤ suc room → g.known ≤ g.len → (small → SmallHead g)
      → Written small (turned h cells ring e (Counts g b)).memory
  counts_written g b l m state =
      let p : Pattern = kept_pattern cells in
      let ring₁ : List ℕ = ring_with g e b ring in
      tell_written Telling (telling_head p g b ring₁) cells ring₁
      record {
        wide = s.wide;
        long = ring_long_with g b;
        state = λ a. telling_small p g b ring₁ l m (state a);
        words = s.words;
        slots = ring_small_with g b;
      }
      (begin_at g.known) (λ a. begin_small g.known (state a).known)

  turned_written :
      (late full : Bool) (g : Head) (b : Bool) → g.len ≤ suc room → g.known ≤ g.len → (small → SmallHead g)
      → Written small (turned h cells ring e (pick late Late (pick full Full (Counts g b)))).memory
  turned_written true full g b l m state =
      written Waiting (counted_head h) cells ring
      record { wide = s.wide; long = s.long; state = λ a. counted_small h k (s.state a); words = s.words; slots = s.slots }
  turned_written false true g b l m state = written Over h cells ring s
  turned_written false false g b l m state = counts_written g b l m state

  pub heard_written : Written small (heard h cells ring e).memory
  unfolding heard hear
  heard_written =
      let p : Pattern = kept_pattern cells in
      let es : List Event = events ring h.start h.len in
      turned_written (ltb e.time (h.latest - p.late)) (ltb room (h.len - stale_with p h es e + pick (named p e) 1 0)) (counting p h es e) (named p e)
      k.len k.known (λ a. counting_small p h ring e k time (s.state a))
