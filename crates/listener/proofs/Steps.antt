-- What a step of the listener is from a memory that it wrote itself.
use Rattle.std.proofs.Common.{◌≡◌, ℕ, suc, ◌<◌, ◌≤◌, true, List, length, None, refl, ◌∙◌, arith}
use Rattle.std.proofs.lemmas.Bool.{eq-eqb}
use Rattle.std.proofs.lemmas.Bool.Decides.{nat_tests}
use Rattle.timeline.specs.Ring.{capacity, ring_long}
use Rattle.patterns.specs.Limits.{an_event}
use Rattle.rows.specs.SearchLaws.{begin_at}
use Rattle.listener.specs.declared.head.Phase.{Phase}
use Rattle.listener.specs.declared.head.Phase.TheVariants.{Waiting, Telling, Ending}
use Rattle.listener.specs.declared.head.Head.{Head}
use Rattle.listener.specs.Engine.{ToldIt, comes, ends, next}
use Rattle.listener.specs.Machine.{memory_long, room, no_places, memory_of, a_head, head_at, tell_from, cursor_of, ending_head, event_of, heard, came, ended, gone_on, machine, own}
use Rattle.listener.proofs.Words.{ring_back, cells_back, memory_length, head_found}

-- a state and the other parts of a memory that the listener can have written
pub record Sound (h : Head) (cells ring : List ℕ) : Type 0 where
  pub places : length h.at ≡ 6
  pub ok : a_head h ≡ true
  pub wide : length cells ≡ 405
  pub long : length ring ≡ ring_long

pub head_ok :
    (c t s l k u g : ℕ) → c < 4611686018427387904 → t < 4611686018427387904 → s < capacity → l ≤ suc room → k ≤ l → u ≤ l → g ≤ l
    → a_head (record { count = c; latest = t; start = s; len = l; known = k; upto = u; stale = g; at = no_places }) ≡ true
head_ok c t s l k u g h₁ h₂ h₃ h₄ h₅ h₆ h₇ = grind (arith, nat_tests)

pub own_is : (m : List ℕ) (ev : ToldIt) → length m ≡ memory_long → own.step m ev ≡ machine m ev
unfolding own
own_is m ev e = rw (eq-eqb (length m) memory_long e)

module _ (h : Head) (cells ring : List ℕ) (s : Sound h cells ring) where
  long_enough : (ph : Phase) → length (memory_of ph h cells ring) ≡ memory_long
  long_enough ph = memory_length ph h cells ring s.wide s.long

  pub next_telling : own.step (memory_of Telling h cells ring) next ≡ tell_from Telling h cells ring (cursor_of cells h)
  unfolding machine gone_on
  next_telling =
      own_is (memory_of Telling h cells ring) next (long_enough Telling)
      ∙ rw (head_found Telling h cells ring s.places s.ok, cells_back Telling h cells ring s.wide, ring_back Telling h cells ring s.wide) refl

  not_telling : head_at Telling (memory_of Ending h cells ring) ≡ None
  unfolding head_at
  not_telling = refl

  pub next_ending : own.step (memory_of Ending h cells ring) next ≡ tell_from Ending h cells ring (cursor_of cells h)
  unfolding machine gone_on
  next_ending =
      own_is (memory_of Ending h cells ring) next (long_enough Ending)
      ∙ rw (not_telling, head_found Ending h cells ring s.places s.ok, cells_back Ending h cells ring s.wide, ring_back Ending h cells ring s.wide) refl

  pub ends_waiting : own.step (memory_of Waiting h cells ring) ends ≡ tell_from Ending (ending_head h) cells ring (begin_at h.known)
  unfolding machine ended
  ends_waiting =
      own_is (memory_of Waiting h cells ring) ends (long_enough Waiting)
      ∙ rw (head_found Waiting h cells ring s.places s.ok, cells_back Waiting h cells ring s.wide, ring_back Waiting h cells ring s.wide) refl

  pub comes_waiting :
      (t k w v : ℕ) → an_event (event_of h.count t k w v) ≡ true
      → own.step (memory_of Waiting h cells ring) (comes t k w v) ≡ heard h cells ring (event_of h.count t k w v)
  unfolding machine came
  comes_waiting t k w v e =
      own_is (memory_of Waiting h cells ring) (comes t k w v) (long_enough Waiting)
      ∙ rw (head_found Waiting h cells ring s.places s.ok, e, cells_back Waiting h cells ring s.wide, ring_back Waiting h cells ring s.wide) refl
