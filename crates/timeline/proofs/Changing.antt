-- A ring through any changes that fit holds what the list is after them; events put in one by one are sorted.
use Rattle.std.proofs.Common.{◌≡◌, ℕ, ◌+◌, ◌-◌, ◌%◌, ◌<◌, ◌≤◌, true, ltb, leb, List, [], ◌∷◌, length, drop, replicate, sym, refl, ap, ◌∙◌, subst, zero-add, arith}
use Rattle.std.proofs.lemmas.Bool.{and_parts, and_from, ltb-true, leb-true, lt-ltb}
use Rattle.std.proofs.lemmas.List.{length-drop, length-replicate}
use Rattle.timeline.specs.declared.events.Event.{Event}
use Rattle.timeline.specs.Lists.{each}
use Rattle.timeline.specs.Order.{before, put, sorted}
use Rattle.timeline.specs.Ordered.{put_last, Ordered}
use Rattle.timeline.specs.Ring.{capacity, ring_long, slot, events, laid, with_put, with_forgotten}
use Rattle.timeline.specs.Changes.{Change, puts, forgets, changed, Standing, empty_at, changed_ring, fit, Holds, ChangesHold, PutsSort, PutsHeld, SlotsSayAll}
use Rattle.timeline.proofs.Lists.{All, Pairs, pairs_map}
use Rattle.timeline.proofs.Sorting.{Apart}
use Rattle.timeline.proofs.Order.{length_put, put_comm, heard_pairs, heard_apart}
use Rattle.timeline.proofs.Ordering.{put_last_belongs, put_ordered, drop_ordered}
use Rattle.timeline.proofs.Cells.{slots_all}
use Rattle.timeline.proofs.Laid.{events_of_laid, laid_outside, laid_over, laid_forget, slot_zeros}

abbrev zeros : List ℕ
zeros = replicate ring_long 0

zeros_long : length zeros ≡ ring_long
zeros_long = length-replicate {A = ℕ} ring_long 0

-- these events, in order, laid into zeros
record LaidOut (es : List Event) (r : Standing) : Type 0 where
  pub whole : r.ring ≡ laid zeros r.start es
  pub len : r.len ≡ length es
  pub bound : length es ≤ capacity
  pub ordered : Ordered es

list_of : (es : List Event) (r : Standing) → LaidOut es r → events r.ring r.start r.len ≡ es
list_of es r o =
    ap (λ (t : List ℕ). events t r.start r.len) o.whole
    ∙ ap (λ (t : ℕ). events (laid zeros r.start es) r.start t) o.len
    ∙ events_of_laid zeros r.start es zeros_long o.bound

holds_from : (es : List Event) (r : Standing) → LaidOut es r → Holds es r
holds_from es r o =
    record {
      len = o.len;
      bound = o.bound;
      list = list_of es r o;
      ordered = o.ordered;
      zeros =
          λ k a b.
          ap (λ (t : List ℕ). slot t (r.start + k)) o.whole
          ∙ laid_outside zeros r.start es k (omega (arith, o.len)) b
          ∙ slot_zeros ring_long (r.start + k);
    }

-- one put in
step_puts : (e : Event) (es : List Event) (r : Standing) → LaidOut es r → r.len < capacity
    → LaidOut (put e es) (record { ring = with_put r.ring r.start r.len e; start = r.start; len = r.len + 1 })
step_puts e es r o h =
    let s = r.start in
    let l = length_put e es in
    record {
      whole =
          ap (λ (t : List Event). laid r.ring s (put_last e t)) (list_of es r o)
          ∙ ap (laid r.ring s) (put_last_belongs e es o.ordered)
          ∙ ap (λ (t : List ℕ). laid t s (put e es)) o.whole
          ∙ laid_over zeros s es (put e es) zeros_long (omega arith) (omega (arith, o.len));
      len = omega (arith, o.len);
      bound = omega (arith, o.len);
      ordered = put_ordered e es o.ordered;
    }

-- n forgotten
step_forgets : (n : ℕ) (es : List Event) (r : Standing) → LaidOut es r → n ≤ r.len
    → LaidOut (drop n es) (record { ring = with_forgotten r.ring r.start n; start = (r.start + n) % capacity; len = r.len - n })
step_forgets n es r o h =
    let l = length-drop n es in
    record {
      whole = ap (λ (t : List ℕ). with_forgotten t r.start n) o.whole ∙ laid_forget r.start n es (omega (arith, o.len)) o.bound;
      len = omega (arith, o.len);
      bound = omega (arith, o.bound);
      ordered = drop_ordered n es o.ordered;
    }

go_on : (cs : List Change) (es : List Event) (r : Standing) → LaidOut es r → fit r.len cs ≡ true → LaidOut (changed es cs) (changed_ring r cs)
unfolding changed changed_ring fit
go_on [] es r o f = o
go_on (puts e ∷ cs) es r o f =
    let p = and_parts (ltb r.len capacity) (fit (r.len + 1) cs) f in
    go_on cs (put e es) (record { ring = with_put r.ring r.start r.len e; start = r.start; len = r.len + 1 })
    (step_puts e es r o (ltb-true r.len capacity p.0)) p.1
go_on (forgets n ∷ cs) es r o f =
    let p = and_parts (leb n r.len) (fit (r.len - n) cs) f in
    go_on cs (drop n es) (record { ring = with_forgotten r.ring r.start n; start = (r.start + n) % capacity; len = r.len - n })
    (step_forgets n es r o (leb-true n r.len p.0)) p.1

none_laid : (start : ℕ) → LaidOut [] (empty_at start)
unfolding laid Ordered
none_laid start = record { whole = refl; len = refl; bound = omega arith; ordered = tt }

pub changes_hold : ChangesHold
unfolding ChangesHold
changes_hold start cs f = holds_from (changed [] cs) (changed_ring (empty_at start) cs) (go_on cs [] (empty_at start) (none_laid start) f)

-- SORTED
-- one put in before others that it is apart of, or after them
put_later : (e : Event) (fs es : List Event) → All (Apart before e) es → changed (put e fs) (each puts es) ≡ put e (changed fs (each puts es))
unfolding changed each
put_later e fs [] a = refl
put_later e fs (g ∷ es) a =
    ap (λ (t : List Event). changed t (each puts es)) (sym (put_comm e g fs a.0))
    ∙ put_later e (put g fs) es a.1

apart_sorted : (es : List Event) → Pairs (Apart before) es → changed [] (each puts es) ≡ sorted es
unfolding changed each sorted put
apart_sorted [] p = refl
apart_sorted (e ∷ es) p = put_later e [] es p.0 ∙ ap (put e) (apart_sorted es p.1)

pub puts_sort : PutsSort
unfolding PutsSort
puts_sort es h = apart_sorted es (pairs_map (λ a b. a.heard < b.heard) (Apart before) heard_apart es (heard_pairs 0 es h))

fit_puts : (n : ℕ) (es : List Event) → n + length es ≤ capacity → fit n (each puts es) ≡ true
unfolding fit each
fit_puts n [] h = refl
fit_puts n (e ∷ es) h =
    and_from (ltb n capacity) (fit (n + 1) (each puts es)) (lt-ltb n capacity (omega arith)) (fit_puts (n + 1) es (omega arith))

pub puts_held : PutsHeld
unfolding PutsHeld PutsSort ChangesHold
puts_held start es h l =
    subst (λ (t : List Event). Holds t (changed_ring (empty_at start) (each puts es))) (puts_sort es h)
    (changes_hold start (each puts es) (fit_puts 0 es (omega arith)))

pub slots_say_all : SlotsSayAll
unfolding SlotsSayAll
slots_say_all a b la lb same = slots_all a b 0 la lb (λ k l. rw (zero-add k) (same k l))
