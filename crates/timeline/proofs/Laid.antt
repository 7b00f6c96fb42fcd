-- Events laid into the slots of a ring: what each slot holds then, and that to lay over, or to forget from the beginning, is to lay anew.
use Rattle.std.proofs.Common.{◌≡◌, ℕ, zero, suc, ◌+◌, ◌-◌, ◌*◌, ◌%◌, ◌<◌, ◌≤◌, Bool, true, ◌&&◌, ltb, List, [], ◌∷◌, length, get_or, drop, set, replicate, sym, refl, ap, ◌∙◌, ⊎_elim, add-zero, arith}
use Rattle.std.proofs.lemmas.Bool.{cases_lt, and_parts, and_from}
use Rattle.std.proofs.lemmas.List.{same_lists, length-drop, length-replicate, get_or-drop, get_or-replicate, get_or_default}
use Rattle.std.proofs.lemmas.List.FromFn.{length-map-range_with_len, get_or-map-range_with_len}
use Rattle.timeline.specs.declared.events.Event.{Event}
use Rattle.timeline.specs.Lists.{every}
use Rattle.timeline.specs.Order.{nothing}
use Rattle.timeline.specs.Ring.{capacity, ring_long, with_event, slot, events, laid, with_forgotten}
use Rattle.timeline.proofs.Cells.{with_long, slot_same, slot_other, slot_turned, slots_all}

pub laid_long : (ring : List ℕ) (s : ℕ) (es : List Event) → length (laid ring s es) ≡ length ring
unfolding laid
laid_long ring s [] = refl
laid_long ring s (e ∷ es) = laid_long (with_event ring (s % capacity * 5) e) (s + 1) es ∙ with_long ring (s % capacity * 5) e

-- a slot outside is as it was
pub laid_outside : (ring : List ℕ) (s : ℕ) (es : List Event) (k : ℕ) → length es ≤ k → k < capacity → slot (laid ring s es) (s + k) ≡ slot ring (s + k)
unfolding laid
laid_outside ring s [] k l h = refl
laid_outside ring s (e ∷ es) k l h =
    let with-e = with_event ring (s % capacity * 5) e in
    let on : s + k ≡ s + 1 + (k - 1) = omega arith in
    ap (slot (laid with-e (s + 1) es)) on
    ∙ laid_outside with-e (s + 1) es (k - 1) (omega arith) (omega arith)
    ∙ ap (slot with-e) (sym on)
    ∙ slot_other ring s (s + k) e (λ q. omega arith)

-- a slot inside holds its event
pub laid_inside : (ring : List ℕ) (s : ℕ) (es : List Event) (k : ℕ) → length ring ≡ ring_long → k < length es → length es ≤ capacity
    → slot (laid ring s es) (s + k) ≡ get_or es k nothing
unfolding laid
laid_inside ring s [] k long l h = absurd (omega arith)
laid_inside ring s (e ∷ es) zero long l h =
    let with-e = with_event ring (s % capacity * 5) e in
    let turn : s % capacity ≡ (s + 1 + (capacity - 1)) % capacity = omega arith in
    ap (slot (laid with-e (s + 1) es)) (add-zero s)
    ∙ slot_turned (laid with-e (s + 1) es) s (s + 1 + (capacity - 1)) turn
    ∙ laid_outside with-e (s + 1) es (capacity - 1) (omega arith) (omega arith)
    ∙ slot_turned with-e (s + 1 + (capacity - 1)) s (sym turn)
    ∙ slot_same ring s e long
laid_inside ring s (e ∷ es) (suc k) long l h =
    let with-e = with_event ring (s % capacity * 5) e in
    let on : s + suc k ≡ s + 1 + k = omega arith in
    ap (slot (laid with-e (s + 1) es)) on
    ∙ laid_inside with-e (s + 1) es k (with_long ring (s % capacity * 5) e ∙ long) (omega arith) (omega arith)

-- a ring that holds these events in its slots, and in all others what another holds, is that other with them laid in
pub laid_is : (was is : List ℕ) (s : ℕ) (es : List Event) → length was ≡ ring_long → length is ≡ ring_long → length es ≤ capacity
    → ((k : ℕ) → k < length es → slot is (s + k) ≡ get_or es k nothing)
    → ((k : ℕ) → length es ≤ k → k < capacity → slot is (s + k) ≡ slot was (s + k))
    → is ≡ laid was s es
laid_is was is s es long long' h inside outside =
    slots_all is (laid was s es) s long' (laid_long was s es ∙ long)
    (λ k l.
    ⊎_elim
    (λ (a : k < length es). inside k a ∙ sym (laid_inside was s es k long a h))
    (λ (a : length es ≤ k). outside k a l ∙ sym (laid_outside was s es k a l))
    (cases_lt k (length es)))

pub events_of_laid : (ring : List ℕ) (s : ℕ) (es : List Event) → length ring ≡ ring_long → length es ≤ capacity → events (laid ring s es) s (length es) ≡ es
events_of_laid ring s es long h =
    let n : length (events (laid ring s es) s (length es)) ≡ length es = length-map-range_with_len (slot (laid ring s es)) s (length es) in
    same_lists (events (laid ring s es) s (length es)) es n
    (λ k d l.
    get_or-map-range_with_len (slot (laid ring s es)) s (length es) k (s + k) d (omega arith) refl
    ∙ laid_inside ring s es k long (omega arith) h
    ∙ get_or_default es k nothing d (omega arith))

pub laid_over : (ring : List ℕ) (s : ℕ) (es fs : List Event) → length ring ≡ ring_long → length es ≤ length fs → length fs ≤ capacity
    → laid (laid ring s es) s fs ≡ laid ring s fs
laid_over ring s es fs long l h =
    let long' : length (laid ring s es) ≡ ring_long = laid_long ring s es ∙ long in
    laid_is ring (laid (laid ring s es) s fs) s fs long (laid_long (laid ring s es) s fs ∙ long') h
    (λ k a. laid_inside (laid ring s es) s fs k long' a h)
    (λ k a b. laid_outside (laid ring s es) s fs k a b ∙ laid_outside ring s es k (omega arith) b)

-- zeros everywhere
zeros_at : (n i : ℕ) → get_or {A = ℕ} (replicate n 0) i 0 ≡ 0
zeros_at zero i = refl
zeros_at (suc n) zero = refl
zeros_at (suc n) (suc i) = zeros_at n i

pub slot_zeros : (n i : ℕ) → slot (replicate n 0) i ≡ nothing
slot_zeros n i = simp zeros_at

module _ (zeros : List ℕ) (long : length zeros ≡ ring_long) (none : (i : ℕ) → slot zeros i ≡ nothing) (s n : ℕ) (fs : List Event) (l : n ≤ length fs) (h : length fs ≤ capacity) where
  forget_inside : (k : ℕ) → k < length fs - n → slot (with_forgotten (laid zeros s fs) s n) ((s + n) % capacity + k) ≡ get_or (drop n fs) k nothing
  forget_inside k a =
      slot_turned (with_forgotten (laid zeros s fs) s n) ((s + n) % capacity + k) (s + (n + k)) (omega arith)
      ∙ laid_outside (laid zeros s fs) s (replicate n nothing) (n + k) (omega (arith, length-replicate n nothing)) (omega arith)
      ∙ laid_inside zeros s fs (n + k) long (omega arith) h
      ∙ sym (get_or-drop n fs k nothing)

  forget_outside : (k : ℕ) → length fs - n ≤ k → k < capacity → slot (with_forgotten (laid zeros s fs) s n) ((s + n) % capacity + k) ≡ nothing
  forget_outside k a b =
      ⊎_elim
      (λ (c : n + k < capacity).
      slot_turned (with_forgotten (laid zeros s fs) s n) ((s + n) % capacity + k) (s + (n + k)) (omega arith)
      ∙ laid_outside (laid zeros s fs) s (replicate n nothing) (n + k) (omega (arith, length-replicate n nothing)) c
      ∙ laid_outside zeros s fs (n + k) (omega arith) c
      ∙ none (s + (n + k)))
      (λ (c : capacity ≤ n + k).
      slot_turned (with_forgotten (laid zeros s fs) s n) ((s + n) % capacity + k) (s + (n + k - capacity)) (omega arith)
      ∙ laid_inside (laid zeros s fs) s (replicate n nothing) (n + k - capacity) (laid_long zeros s fs ∙ long) (omega (arith, length-replicate n nothing)) (omega (arith, length-replicate n nothing))
      ∙ get_or-replicate n (n + k - capacity) nothing nothing (omega arith))
      (cases_lt (n + k) capacity)

  forget_laid : with_forgotten (laid zeros s fs) s n ≡ laid zeros ((s + n) % capacity) (drop n fs)
  forget_laid =
      let left : length (drop n fs) ≡ length fs - n = length-drop n fs in
      laid_is zeros (with_forgotten (laid zeros s fs) s n) ((s + n) % capacity) (drop n fs) long
      (laid_long (laid zeros s fs) s (replicate n nothing) ∙ laid_long zeros s fs ∙ long)
      (omega arith)
      (λ k a. forget_inside k (omega arith))
      (λ k a b. forget_outside k (omega arith) b ∙ sym (none ((s + n) % capacity + k)))

pub laid_forget : (s n : ℕ) (fs : List Event) → n ≤ length fs → length fs ≤ capacity
    → laid (laid (replicate ring_long 0) s fs) s (replicate n nothing) ≡ laid (replicate ring_long 0) ((s + n) % capacity) (drop n fs)
laid_forget s n fs l h = forget_laid (replicate ring_long 0) (length-replicate {A = ℕ} ring_long 0) (slot_zeros ring_long) s n fs l h

-- every number of an event passes a test
abbrev pub each_number : (ℕ → Bool) → Event → Bool
each_number f e = f e.heard && (f e.time && (f e.kind && (f e.who && f e.value)))

every_set : (f : ℕ → Bool) (xs : List ℕ) (i x : ℕ) → every f xs ≡ true → f x ≡ true → every f (set xs i x) ≡ true
unfolding every
every_set f [] i x h k = refl
every_set f (y ∷ ys) zero x h k = and_from (f x) (every f ys) k (and_parts (f y) (every f ys) h).1
every_set f (y ∷ ys) (suc i) x h k =
    let p = and_parts (f y) (every f ys) h in
    and_from (f y) (every f (set ys i x)) p.0 (every_set f ys i x p.1 k)

with_every : (f : ℕ → Bool) (ring : List ℕ) (n : ℕ) (e : Event) → every f ring ≡ true
    → each_number f e ≡ true → every f (with_event ring n e) ≡ true
with_every f ring n e h k =
    let p0 = and_parts (f e.heard) (f e.time && (f e.kind && (f e.who && f e.value))) k in
    let p1 = and_parts (f e.time) (f e.kind && (f e.who && f e.value)) p0.1 in
    let p2 = and_parts (f e.kind) (f e.who && f e.value) p1.1 in
    let p3 = and_parts (f e.who) (f e.value) p2.1 in
    let r0 = every_set f ring n e.heard h p0.0 in
    let r1 = every_set f _ (n + 1) e.time r0 p1.0 in
    let r2 = every_set f _ (n + 2) e.kind r1 p2.0 in
    let r3 = every_set f _ (n + 3) e.who r2 p3.0 in
    every_set f _ (n + 4) e.value r3 p3.1

pub laid_every : (f : ℕ → Bool) (ring : List ℕ) (s : ℕ) (es : List Event) → every f ring ≡ true → every (each_number f) es ≡ true → every f (laid ring s es) ≡ true
unfolding laid every
laid_every f ring s [] h k = h
laid_every f ring s (e ∷ es) h k =
    let p = and_parts (each_number f e) (every (each_number f) es) k in
    laid_every f (with_event ring (s % capacity * 5) e) (s + 1) es (with_every f ring (s % capacity * 5) e h p.0) p.1

-- numbers of 64 bits stay so
pub laid_small : (ring : List ℕ) (s : ℕ) (es : List Event)
    → every (λ m. ltb m 18446744073709551616) ring ≡ true
    → every (each_number (λ m. ltb m 18446744073709551616)) es ≡ true
    → every (λ m. ltb m 18446744073709551616) (laid ring s es) ≡ true
laid_small ring s es h k = laid_every (λ m. ltb m 18446744073709551616) ring s es h k
