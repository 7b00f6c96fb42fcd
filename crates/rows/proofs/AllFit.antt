-- The rows that are found are those that fit: from the places of a row to what is said of it, and back.
use Rattle.std.proofs.Common.{◌≡◌, ℕ, zero, suc, ◌+◌, ◌-◌, ◌<◌, ◌≤◌, Bool, true, false, not, ◌&&◌, leb, List, [], ◌∷◌, length, take, sym, refl, ap, ◌∙◌, subst, not-suc-le-zero, add-zero, arith, length-take-le}
use Rattle.std.proofs.lemmas.List.{get_or-take}
use Rattle.std.proofs.lemmas.Bool.{leb-true, le-leb, not-true, not_from_false, and_parts, and_from}
use Rattle.timeline.specs.declared.events.Event.{Event}
use Rattle.timeline.specs.Lists.{pick, or, any, none_of}
use Rattle.timeline.specs.Order.{nothing, before, sorted, nth, first_of, last_of}
use Rattle.timeline.proofs.Order.{sorted_is, nth_is}
use Rattle.patterns.specs.Patterns.{Step, Pattern, fits_step}
use Rattle.rows.specs.Rows.{between, goes_on, rows, all_rows, told_before}
use Rattle.rows.specs.Finding.{forbidden, step_of}
use Rattle.rows.specs.Fitting.{Among, Fits, AllThatFit}
use Rattle.rows.proofs.Order.{in_order_is}
use Rattle.rows.proofs.Reach.{before_time, fits_of}
use Rattle.rows.proofs.Among.{among_sorted, sorted_among, none_among, any_none}
use Rattle.rows.proofs.Along.{StepByStep, found_steps, steps_found}

nth_take : (n k : ℕ) (r : List Event) → k < n → nth (take n r) k ≡ nth r k
nth_take n k r h = nth_is (take n r) k ∙ get_or-take n r k nothing h ∙ sym (nth_is r k)

last_take : (i : ℕ) (r : List Event) → i < length r → last_of (take (suc i) r) ≡ nth r i
last_take i r h = let k : length (take (suc i) r) - 1 ≡ i = omega (arith, length-take-le (suc i) r h) in rw k (nth_take (suc i) i r (omega arith))

some_take : (i : ℕ) (r : List Event) → i < length r → none_of (take (suc i) r) ≡ false
unfolding none_of
some_take i [] h = absurd (not-suc-le-zero h)
some_take i (e ∷ r) h = refl

module _ (all : List Event) (w : ℕ) (r : List Event) where
  -- an event behind place i that a never of the step forbids
  abbrev in_the_way : ℕ → Step → Event → Event → Bool
  in_the_way i s e f = between (nth r i) e f && forbidden (take (suc i) r) s f

  -- what may come next behind place i
  abbrev comes_next : ℕ → Step → Event → Bool
  comes_next i s e =
      fits_step (take (suc i) r) e s.kind s.tests
      && ((before (nth r i) e && leb e.time ((nth r 0).time + w)) && not (any (in_the_way i s e) all))

  goes_next : (i : ℕ) (s : Step) (e : Event) → i < length r → goes_on all w (take (suc i) r) s e ≡ comes_next i s e
  goes_next i s e h =
      ap (λ (b : Bool). goes b (last_of (take (suc i) r)) (first_of (take (suc i) r))) (some_take i r h)
      ∙ ap (λ (l : Event). goes false l (first_of (take (suc i) r))) (last_take i r h)
      ∙ ap (λ (f : Event). goes false (nth r i) f) (nth_take (suc i) 0 r (omega arith))
    where
      goes : Bool → Event → Event → Bool
      goes b l f =
          fits_step (take (suc i) r) e s.kind s.tests
          && (or b (before l e && leb e.time (f.time + w)) && pick b true (not (any (λ x. between l e x && forbidden (take (suc i) r) s x) all)))

-- FROM THE PLACES OF A ROW: it fits
module _ (p : Pattern) (es r : List Event) (g : StepByStep (sorted es) p.within [] p.steps r) where
  record Next (i : ℕ) : Type 0 where
    is_before : before (nth r i) (nth r (suc i)) ≡ true
    is_within : (nth r (suc i)).time ≤ (nth r 0).time + p.within
    clear_way : any (in_the_way (sorted es) p.within r i (step_of p.steps (suc i)) (nth r (suc i))) (sorted es) ≡ false

  next : (i : ℕ) → suc i < length r → Next i
  next i h =
      let s = step_of p.steps (suc i) in
      let e = nth r (suc i) in
      let way = any (in_the_way (sorted es) p.within r i s e) (sorted es) in
      let near = before (nth r i) e && leb e.time ((nth r 0).time + p.within) in
      let a : comes_next (sorted es) p.within r i s e ≡ true = sym (goes_next (sorted es) p.within r i s e (omega arith)) ∙ (g.1 (suc i) h).1 in
      let b = and_parts near (not way) (and_parts (fits_step (take (suc i) r) e s.kind s.tests) (near && not way) a).1 in
      let c = and_parts (before (nth r i) e) (leb e.time ((nth r 0).time + p.within)) b.0 in
      record { is_before = c.0; is_within = leb-true e.time ((nth r 0).time + p.within) c.1; clear_way = not-true way b.1 }

  window : (n : ℕ) → length r ≡ n → (last_of r).time ≤ (first_of r).time + p.within
  window zero q = let k : length r - 1 ≡ 0 = omega arith in rw k (omega arith)
  window (suc zero) q = let k : length r - 1 ≡ 0 = omega arith in rw k (omega arith)
  window (suc (suc i)) q = let k : length r - 1 ≡ suc i = omega arith in rw k (next i (omega arith)).is_within

  undisturbed_at : (i : ℕ) → suc i < length r → (f : Event) → Among f es → between (nth r i) (nth r (suc i)) f ≡ true
      → forbidden (take (suc i) r) (step_of p.steps (suc i)) f ≡ false
  undisturbed_at i h f m b =
      let s = step_of p.steps (suc i) in
      let m₁ = subst (Among f) (sym (sorted_is es)) (among_sorted before f es m) in
      let k = none_among (in_the_way (sorted es) p.within r i s (nth r (suc i))) f (sorted es) (next i h).clear_way m₁ in
      other (between (nth r i) (nth r (suc i)) f) (forbidden (take (suc i) r) s f) k b
    where
      other : (a b : Bool) → (a && b) ≡ false → a ≡ true → b ≡ false
      other a b h k = grind arith

  fits_found : Fits p es r
  fits_found =
      record {
        each_step = g.0;
        there = λ i h. sorted_among before (nth r i) es (subst (Among (nth r i)) (sorted_is es) (g.1 i h).0);
        passes = λ i h. fits_of (sorted es) p.within (take i r) (step_of p.steps i) (nth r i) (g.1 i h).1;
        in_time = λ i h. (next i h).is_before;
        in_window = window (length r) refl;
        undisturbed = undisturbed_at;
      }

-- FROM WHAT IS SAID OF A ROW: it is found
module _ (p : Pattern) (es r : List Event) (f : Fits p es r) where
  times_rise : (d i : ℕ) → i + d < length r → (nth r i).time ≤ (nth r (i + d)).time
  times_rise zero i h = rw (add-zero i) (omega arith)
  times_rise (suc d) i h =
      let a = times_rise d i (omega arith) in
      let b = before_time (nth r (i + d)) (nth r (suc (i + d))) (f.in_time (i + d) (omega arith)) in
      let e : i + suc d ≡ suc (i + d) = omega arith in
      rw e (omega arith)

  within : (i : ℕ) → i < length r → (nth r i).time ≤ (nth r 0).time + p.within
  within i h =
      let d = length r - 1 - i in
      let a = times_rise d i (omega arith) in
      let e : i + d ≡ length r - 1 = omega arith in
      let b : (nth r i).time ≤ (last_of r).time = rw e at a in
      let c = f.in_window in
      omega arith

  way_clear : (i : ℕ) → suc i < length r → any (in_the_way (sorted es) p.within r i (step_of p.steps (suc i)) (nth r (suc i))) (sorted es) ≡ false
  way_clear i h =
      let s = step_of p.steps (suc i) in
      let e = nth r (suc i) in
      any_none (in_the_way (sorted es) p.within r i s e) (sorted es)
      (λ x m. if_first (between (nth r i) e x) (forbidden (take (suc i) r) s x)
      (f.undisturbed i h x (sorted_among before x es (subst (Among x) (sorted_is es) m))))
    where
      if_first : (a b : Bool) → (a ≡ true → b ≡ false) → (a && b) ≡ false
      if_first a b k = grind arith

  goes_at : (i : ℕ) → i < length r → goes_on (sorted es) p.within (take i r) (step_of p.steps i) (nth r i) ≡ true
  unfolding none_of
  goes_at zero h = and_from (fits_step [] (nth r 0) (step_of p.steps 0).kind (step_of p.steps 0).tests) true (f.passes 0 h) refl
  goes_at (suc i) h =
      let s = step_of p.steps (suc i) in
      let e = nth r (suc i) in
      let limit = (nth r 0).time + p.within in
      let near = and_from (before (nth r i) e) (leb e.time limit) (f.in_time i h) (le-leb e.time limit (within (suc i) h)) in
      goes_next (sorted es) p.within r i s e (omega arith)
      ∙ and_from (fits_step (take (suc i) r) e s.kind s.tests) _ (f.passes (suc i) h) (and_from _ _ near (not_from_false _ (way_clear i h)))

  steps_of : StepByStep (sorted es) p.within [] p.steps r
  steps_of = (f.each_step, λ i h. (subst (Among (nth r i)) (sym (sorted_is es)) (among_sorted before (nth r i) es (f.there i h)), goes_at i h))

pub all_that_fit : AllThatFit
unfolding AllThatFit
all_that_fit p es r = (to, from)
  where
    found : List (List Event)
    found = rows (sorted es) p.within p.steps []

    to : Among r (all_rows p es) → Fits p es r
    to m = fits_found p es r (found_steps (sorted es) p.within p.steps r (sorted_among told_before r found (subst (Among r) (in_order_is found) m)))

    from : Fits p es r → Among r (all_rows p es)
    from f = subst (Among r) (sym (in_order_is found)) (among_sorted told_before r found (steps_found (sorted es) p.within p.steps r (steps_of p es r f)))
