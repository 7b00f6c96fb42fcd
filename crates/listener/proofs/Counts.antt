-- An event that counts: the ring and the state in which its rows are told, the rows, and the memory when they are told.
use Rattle.std.proofs.Common.{◌≡◌, ℕ, suc, ◌+◌, ◌-◌, ◌≤◌, Bool, true, false, ltb, List, length, drop, sym, refl, ap, ◌∙◌, ap₂, add-one, arith}
use Rattle.std.proofs.lemmas.List.{length-replicate}
use Rattle.timeline.specs.declared.events.Event.{Event}
use Rattle.timeline.specs.Lists.{those}
use Rattle.timeline.specs.Order.{put, latest}
use Rattle.timeline.specs.Ordered.{put_last}
use Rattle.timeline.specs.Ring.{ring_long, events, laid, with_put}
use Rattle.timeline.proofs.Order.{length_put, sorted_ord, latest_snoc}
use Rattle.timeline.proofs.Ordering.{ordered_from, put_last_belongs}
use Rattle.timeline.proofs.Laid.{events_of_laid, laid_over}
use Rattle.patterns.specs.Patterns.{Pattern, named}
use Rattle.rows.specs.Known.{heard_to, too_late, is_held, with_number}
use Rattle.listener.specs.declared.head.Head.{Head}
use Rattle.listener.specs.Machine.{room, no_places, below_run, latest_with, stale_with, counting, ring_with, len_with, telling_head}
use Rattle.listener.specs.Holding.{held_list, waiting_head, zero_ring}
use Rattle.listener.proofs.Holding.{Numbered, new, with_came, with_came_is, length_with, upto_is}

pub zero_long : length zero_ring ≡ ring_long
zero_long = length-replicate {A = ℕ} ring_long 0

module _ (p : Pattern) (n : ℕ) (es : List Event) (f : Event) (num : Numbered n es) (in_time : too_late p es f ≡ false) (s : ℕ) (few : length (held_list p es) ≤ room) where
  abbrev held_now : List Event
  held_now = held_list p es

  abbrev listed : List Event
  listed = with_came p n es f num in_time

  abbrev e : Event
  e = with_number n f

  abbrev ring : List ℕ
  ring = laid zero_ring s held_now

  -- the ring with the event
  pub ring_is : ring_with (waiting_head p n es s) e (named p e) ring ≡ laid zero_ring s listed
  unfolding held_list
  ring_is = go (named p e) refl
    where
      put_in : with_put ring s (length held_now) e ≡ laid zero_ring s (put e held_now)
      put_in =
          ap (λ (xs : List Event). laid ring s (put_last e xs)) (events_of_laid zero_ring s held_now zero_long (omega arith))
          ∙ ap (laid ring s) (put_last_belongs e held_now (ordered_from held_now (sorted_ord (those (is_held p (heard_to p es)) es))))
          ∙ laid_over zero_ring s held_now (put e held_now) zero_long (omega (arith, length_put e held_now)) (omega (arith, length_put e held_now))

      go : (b : Bool) → named p e ≡ b → ring_with (waiting_head p n es s) e b ring ≡ laid zero_ring s listed
      go true q = put_in ∙ ap (laid zero_ring s) (sym (with_came_is p n es f num in_time ∙ rw q))
      go false q = ap (laid zero_ring s) (sym (with_came_is p n es f num in_time ∙ rw q))

  len_is : len_with (waiting_head p n es s) (named p e) ≡ length listed
  len_is = let l = length_with p n es f num in_time in grind arith

  pub listed_few : length listed ≤ suc room
  listed_few = let l = length_with p n es f num in_time in grind arith

  pub listed_back : events (laid zero_ring s listed) s (length listed) ≡ listed
  listed_back = events_of_laid zero_ring s listed zero_long (omega (arith, listed_few))

  abbrev pub mark : ℕ
  mark = heard_to p es

  abbrev pub mark₁ : ℕ
  mark₁ = heard_to p (new p n es f num in_time)

  abbrev pub known : ℕ
  known = below_run (mark + 1) held_now

  abbrev pub stale : ℕ
  stale = below_run (mark₁ - p.within) held_now

  abbrev pub upto : ℕ
  upto = length (those (λ x. ltb x.time (mark₁ + 1)) listed)

  -- the state in which the rows of the event are told
  abbrev pub telling : Head
  telling =
      record {
        count = suc n;
        latest = latest (new p n es f num in_time);
        start = s;
        len = length listed;
        known = known;
        upto = upto;
        stale = stale;
        at = no_places;
      }

  latest_is : latest_with (waiting_head p n es s) e ≡ latest (new p n es f num in_time)
  latest_is = sym (latest_snoc es e)

  here_is : events ring s (length held_now) ≡ held_now
  here_is = events_of_laid zero_ring s held_now zero_long (omega arith)

  pub stale_same : stale_with p (waiting_head p n es s) (events ring s (length held_now)) e ≡ stale
  stale_same = ap₂ (λ (t : ℕ) (xs : List Event). below_run (t - p.late - p.within) xs) latest_is here_is

  upto_same : known + below_run (mark₁ + 1) (drop known (events (laid zero_ring s listed) s (length listed))) ≡ upto
  upto_same = ap (λ (xs : List Event). known + below_run (mark₁ + 1) (drop known xs)) listed_back ∙ upto_is p n es f num in_time

  pub telling_is :
      telling_head p (counting p (waiting_head p n es s) (events ring s (length held_now)) e) (named p e) (ring_with (waiting_head p n es s) e (named p e) ring) ≡ telling
  telling_is = rw (ring_is, len_is, stale_same, latest_is, upto_same, add-one n) refl
