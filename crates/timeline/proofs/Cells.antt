-- Slots of a ring: one written is told from all others, and the slots of one turn say all that a ring holds.
use Rattle.std.proofs.Common.{◌≡◌, ℕ, ◌+◌, ◌-◌, ◌*◌, ◌/◌, ◌%◌, ◌<◌, ◌≤◌, ◌≢◌, ◌⊎◌, inl, inr, ⊎_elim, min, List, [], length, get_or, replicate, sym, ap, ◌∙◌, arith, rules}
use Rattle.std.proofs.lemmas.Bool.{cases_lt}
use Rattle.std.proofs.lemmas.List.{length-set, length-replicate, get_or-replicate, ext_get_or, places}
use borrow.Rule.Slice.PartMut.{put_mid}
use Rattle.timeline.specs.declared.events.Event.{Event}
use Rattle.timeline.specs.Order.{nothing}
use Rattle.timeline.specs.Ring.{capacity, ring_long, event_at, with_event, slot}
use Rattle.timeline.proofs.Chunks.{event_from}

pub with_long : (ring : List ℕ) (n : ℕ) (e : Event) → length (with_event ring n e) ≡ length ring
with_long ring n e = simp length-set

event_same : (ring : List ℕ) (n : ℕ) (e : Event) → n + 4 < length ring → event_at (with_event ring n e) n ≡ e
event_same ring n e h = search (rules, places)

event_other : (ring : List ℕ) (p q : ℕ) (e : Event) → q ≢ p → event_at (with_event ring (p * 5) e) (q * 5) ≡ event_at ring (q * 5)
event_other ring p q e h = search (rules, places)

pub slot_same : (ring : List ℕ) (s : ℕ) (e : Event) → length ring ≡ ring_long → slot (with_event ring (s % capacity * 5) e) s ≡ e
slot_same ring s e h = event_same ring (s % capacity * 5) e (omega arith)

pub slot_other : (ring : List ℕ) (s t : ℕ) (e : Event) → t % capacity ≢ s % capacity → slot (with_event ring (s % capacity * 5) e) t ≡ slot ring t
slot_other ring s t e ne = event_other ring (s % capacity) (t % capacity) e ne

-- numbers written over part of a ring leave each slot that has none of them
module _ (ring xs : List ℕ) (a k : ℕ) (l : length xs ≡ k) (h : a + k ≤ length ring) where
  below : (n : ℕ) → n < a → get_or (put_mid a k ring xs) n 0 ≡ get_or ring n 0
  below n b = search (rules, places)

  above : (n : ℕ) → a + k ≤ n → get_or (put_mid a k ring xs) n 0 ≡ get_or ring n 0
  above n b = search (rules, places)

  within : (n : ℕ) → a ≤ n → n < a + k → get_or (put_mid a k ring xs) n 0 ≡ get_or xs (n - a) 0
  within n b e = search (rules, places)

  slot_beside : (t : ℕ) → (t % capacity * 5 + 5 ≤ a) ⊎ (a + k ≤ t % capacity * 5) → slot (put_mid a k ring xs) t ≡ slot ring t
  slot_beside t =
      ⊎_elim
      (λ (b : t % capacity * 5 + 5 ≤ a). event_from (put_mid a k ring xs) ring (t % capacity * 5) (t % capacity * 5) (λ j g. below (t % capacity * 5 + j) (omega arith)))
      (λ (b : a + k ≤ t % capacity * 5). event_from (put_mid a k ring xs) ring (t % capacity * 5) (t % capacity * 5) (λ j g. above (t % capacity * 5 + j) (omega arith)))

  -- and each slot that they are zeros of is none
  slot_zero : xs ≡ replicate k 0 → (t : ℕ) → a ≤ t % capacity * 5 → t % capacity * 5 + 5 ≤ a + k → slot (put_mid a k ring xs) t ≡ nothing
  slot_zero zeros t b e =
      event_from (put_mid a k ring xs) [] (t % capacity * 5) 0
      (λ j g.
      let n : ℕ = t % capacity * 5 + j in
      within n (omega arith) (omega arith) ∙ ap (λ (ns : List ℕ). get_or ns (n - a) 0) zeros ∙ get_or-replicate k (n - a) 0 0 (omega arith))

  long_beside : length (put_mid a k ring xs) ≡ length ring
  long_beside = search (rules, places)

-- five numbers written over one slot leave every other
pub slot_past : (ring xs : List ℕ) (p k t : ℕ) → length xs ≡ k → k ≡ 5 → p * 5 + 5 ≤ length ring → t % capacity ≢ p
    → slot (put_mid (p * 5) k ring xs) t ≡ slot ring t
slot_past ring xs p k t l five h ne =
    slot_beside ring xs (p * 5) k l (omega arith) t (⊎_elim (λ (b : t % capacity < p). inl (omega arith)) (λ (b : p ≤ t % capacity). inr (omega arith)) (cases_lt (t % capacity) p))

-- zeros written from a to b and from c to d, over the slots of a span
module _ (ring front back : List ℕ) (s len a b c d : ℕ) (long : length ring ≡ ring_long) (hs : s < capacity) (hl : len ≤ capacity)
    (ha : a ≡ s * 5) (hb : b ≡ min (s + len) capacity * 5) (hc : c ≡ 0) (hd : d ≡ (s + len - capacity) * 5)
    (hf : front ≡ replicate (b - a) 0) (hk : back ≡ replicate (d - c) 0) where
  lf : length front ≡ b - a
  lf = ap length hf ∙ length-replicate (b - a) 0

  lk : length back ≡ d - c
  lk = ap length hk ∙ length-replicate (d - c) 0

  long' : length (put_mid a (b - a) ring front) ≡ ring_long
  long' = long_beside ring front a (b - a) lf (omega arith) ∙ long

  pub cleared_zero : (k : ℕ) → k < len → slot (put_mid c (d - c) (put_mid a (b - a) ring front) back) (s + k) ≡ nothing
  cleared_zero k h =
      ⊎_elim
      (λ (e : s + k < capacity).
      slot_beside (put_mid a (b - a) ring front) back c (d - c) lk (omega (arith, long')) (s + k) (inr (omega arith))
      ∙ slot_zero ring front a (b - a) lf (omega arith) hf (s + k) (omega arith) (omega arith))
      (λ (e : capacity ≤ s + k). slot_zero (put_mid a (b - a) ring front) back c (d - c) lk (omega (arith, long')) hk (s + k) (omega arith) (omega arith))
      (cases_lt (s + k) capacity)

  pub cleared_other : (k : ℕ) → len ≤ k → k < capacity → slot (put_mid c (d - c) (put_mid a (b - a) ring front) back) (s + k) ≡ slot ring (s + k)
  cleared_other k h g =
      slot_beside (put_mid a (b - a) ring front) back c (d - c) lk (omega (arith, long')) (s + k) (inr (omega arith))
      ∙ slot_beside ring front a (b - a) lf (omega arith) (s + k)
      (⊎_elim (λ (e : s + k < capacity). inr (omega arith)) (λ (e : capacity ≤ s + k). inl (omega arith)) (cases_lt (s + k) capacity))

-- two slots of one turn are apart
pub apart : (s i k : ℕ) → i < capacity → k < capacity → (k ≡ i → ⊥) → (s + k) % capacity ≢ (s + i) % capacity
apart s i k hi hk ne = λ e. omega arith

-- a slot by another count of turns
pub slot_turned : (ring : List ℕ) (a b : ℕ) → a % capacity ≡ b % capacity → slot ring a ≡ slot ring b
slot_turned ring a b e = ap (λ (t : ℕ). event_at ring (t * 5)) e

-- the five numbers of two equal events
numbers_same : (a b : List ℕ) (q n : ℕ) → event_at a q ≡ event_at b q → q ≤ n → n < q + 5 → get_or a n 0 ≡ get_or b n 0
numbers_same a b q n e l h =
    let e0 : get_or a q 0 ≡ get_or b q 0 = ap (λ (x : Event). x.heard) e in
    let e1 : get_or a (q + 1) 0 ≡ get_or b (q + 1) 0 = ap (λ (x : Event). x.time) e in
    let e2 : get_or a (q + 2) 0 ≡ get_or b (q + 2) 0 = ap (λ (x : Event). x.kind) e in
    let e3 : get_or a (q + 3) 0 ≡ get_or b (q + 3) 0 = ap (λ (x : Event). x.who) e in
    let e4 : get_or a (q + 4) 0 ≡ get_or b (q + 4) 0 = ap (λ (x : Event). x.value) e in
    grind arith

around : (start p : ℕ) → p < capacity → (start + (p + capacity - start % capacity) % capacity) % capacity ≡ p
around start p l = omega arith

pub slots_all : (a b : List ℕ) (start : ℕ) → length a ≡ ring_long → length b ≡ ring_long
    → ((k : ℕ) → k < capacity → slot a (start + k) ≡ slot b (start + k)) → a ≡ b
slots_all a b start la lb same =
    ext_get_or 0 a b (omega arith)
    (λ n h.
    let p : ℕ = n / 5 in
    let k : ℕ = (p + capacity - start % capacity) % capacity in
    let at : (start + k) % capacity ≡ p = around start p (omega arith) in
    let e : event_at a (p * 5) ≡ event_at b (p * 5) =
    ap (λ (t : ℕ). event_at a (t * 5)) (sym at) ∙ same k (omega arith) ∙ ap (λ (t : ℕ). event_at b (t * 5)) at in
    numbers_same a b (p * 5) n e (omega arith) (omega arith))
