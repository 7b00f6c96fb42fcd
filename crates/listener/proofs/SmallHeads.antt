-- The states that the listener writes are small, if the one before was and a few words of it are bounded.
use Rattle.std.proofs.Common.{◌≡◌, ℕ, suc, ◌+◌, ◌-◌, ◌≤◌, Bool, true, false, ◌&&◌, eqb, List, length, get_or, drop, Some, None, refl, ap, ◌∙◌, arith}
use Rattle.std.specs.Option.{IfSome}
use Rattle.std.specs.Bool.{then_some}
use Rattle.std.proofs.lemmas.List.FromFn.{length-map-range_with_len}
use Rattle.std.proofs.lemmas.List.{length-drop}
use Rattle.std.proofs.lemmas.Bool.Decides.{nat_tests as by_tests}
use Rattle.timeline.specs.declared.events.Event.{Event}
use Rattle.timeline.specs.Ring.{slot, events}
use Rattle.patterns.specs.Patterns.{Pattern}
use Rattle.rows.specs.SearchLaws.{begin_at}
use Rattle.listener.specs.declared.head.Head.{Head}
use Rattle.timeline.specs.Lists.{pick}
use Rattle.listener.specs.declared.head.Phase.{Phase}
use Rattle.listener.specs.Machine.{phase_number, head_of, head_at, Bounded, room, a_head, settled_head, with_places, blank, latest_with, counting, len_with, telling_head, counted_head, ending_head}
use Rattle.listener.proofs.Fronts.{below_run_most}
use Rattle.listener.proofs.Small.{Small, Smalls, no_places_small, SmallHead}

pub blank_small : SmallHead blank
blank_small =
    record {
      count = omega arith;
      latest = omega arith;
      start = omega arith;
      len = omega arith;
      known = omega arith;
      upto = omega arith;
      stale = omega arith;
      at = no_places_small;
    }

pub ending_small : (h : Head) → SmallHead h → SmallHead (ending_head h)
ending_small h s =
    record { count = s.count; latest = s.latest; start = s.start; len = s.len; known = s.known; upto = s.len; stale = s.len; at = s.at }

pub settled_small : (h : Head) → SmallHead h → SmallHead (settled_head h)
settled_small h s =
    record {
      count = s.count;
      latest = s.latest;
      start = omega arith;
      len = omega arith;
      known = omega arith;
      upto = omega arith;
      stale = omega arith;
      at = no_places_small;
    }

pub places_put : (h : Head) (at : List ℕ) → SmallHead h → Smalls at → SmallHead (with_places h at)
places_put h at s a =
    record { count = s.count; latest = s.latest; start = s.start; len = s.len; known = s.known; upto = s.upto; stale = s.stale; at = a }

pub bounds : (h : Head) → a_head h ≡ true → Bounded h
bounds h e =
    record {
      count = grind (arith, by_tests);
      latest = grind (arith, by_tests);
      start = grind (arith, by_tests);
      len = grind (arith, by_tests);
      known = grind (arith, by_tests);
      upto = grind (arith, by_tests);
      stale = grind (arith, by_tests);
    }

-- a state that is handed on where it is one
pub handed_on :
    (ph : Phase) (m : List ℕ) (b : Bool) (h : Head) → b ≡ (eqb (get_or m 0 0) (phase_number ph) && a_head (head_of m)) → h ≡ head_of m
    → (then_some b h ≡ head_at ph m) × IfSome (then_some b h) Bounded
unfolding head_at
handed_on ph m b h is same = rw (same, is) (go (eqb (get_or m 0 0) (phase_number ph)) (a_head (head_of m)) refl)
  where
    go : (x y : Bool) → a_head (head_of m) ≡ y
        → (then_some (x && y) (head_of m) ≡ pick (x && y) (Some (head_of m)) None) × IfSome (then_some (x && y) (head_of m)) Bounded
    go true true e = (refl, bounds (head_of m) e)
    go true false e = (refl, tt)
    go false y e = (refl, tt)

pub counted_small : (h : Head) → Bounded h → SmallHead h → SmallHead (counted_head h)
counted_small h k s =
    record { count = omega arith; latest = s.latest; start = s.start; len = s.len; known = s.known; upto = s.upto; stale = s.stale; at = s.at }

pub counting_small :
    (p : Pattern) (h : Head) (ring : List ℕ) (e : Event) → Bounded h → Small e.time → SmallHead h
    → SmallHead (counting p h (events ring h.start h.len) e)
counting_small p h ring e k t s =
    let es : List Event = events ring h.start h.len in
    let few : length es ≡ h.len = length-map-range_with_len (slot ring) h.start h.len in
    record {
      count = omega arith;
      latest = grind arith;
      start = s.start;
      len = s.len;
      known = s.known;
      upto = s.upto;
      stale = omega (arith, below_run_most (latest_with h e - p.late - p.within) es);
      at = s.at;
    }

len_with_most : (h : Head) (b : Bool) → len_with h b ≤ h.len + 1
len_with_most h true = omega arith
len_with_most h false = omega arith

pub telling_small :
    (p : Pattern) (h : Head) (b : Bool) (ring : List ℕ) → h.len ≤ suc room → h.known ≤ h.len → SmallHead h → SmallHead (telling_head p h b ring)
telling_small p h b ring l k s =
    let n : ℕ = len_with h b in
    let es : List Event = drop h.known (events ring h.start n) in
    let few : length es ≡ n - h.known = length-drop h.known (events ring h.start n) ∙ ap (λ (j : ℕ). j - h.known) (length-map-range_with_len (slot ring) h.start n) in
    record {
      count = s.count;
      latest = s.latest;
      start = s.start;
      len = omega (arith, len_with_most h b);
      known = s.known;
      upto = omega (arith, len_with_most h b, below_run_most (h.latest - p.late + 1) es);
      stale = s.stale;
      at = s.at;
    }

pub begin_small : (n : ℕ) → Small n → Smalls (begin_at n).at
begin_small n l = (l, no_places_small.1)
