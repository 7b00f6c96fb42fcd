-- Numbers of 64 bits: of lists and their parts, of a ring with events put in or forgotten, and of the memory put together.
use Rattle.std.proofs.Common.{◌≡◌, ℕ, zero, suc, ◌<◌, ◌≤◌, Bool, true, ltb, List, [], ◌∷◌, ◌++◌, map, length, get_or, replicate, refl, inl, inr, ⊎_elim, arith}
use Rattle.std.specs.List.{range_with_len, AllByRecursion as All}
use Rattle.std.proofs.ByRecursion.{All-get_or, All-append, All-take}
use Rattle.std.proofs.lemmas.List.{get_or_past}
use Rattle.std.proofs.lemmas.Bool.{and_parts, and_from, cases_lt, cases_Bool, ltb-true, lt-ltb}
use Rattle.std.proofs.lemmas.Bool.Decides.{nat_tests}
use Rattle.timeline.specs.declared.events.Event.{Event}
use Rattle.timeline.specs.Lists.{every}
use Rattle.timeline.specs.Order.{before, nothing}
use Rattle.timeline.specs.Ordered.{put_last}
use Rattle.timeline.specs.Ring.{slot, events, with_put, with_forgotten}
use Rattle.timeline.proofs.Laid.{each_number, laid_small}
use Rattle.rows.specs.Finding.{six}
use Rattle.listener.specs.declared.head.Phase.{Phase}
use Rattle.listener.specs.declared.head.Phase.TheVariants.{New, Waiting, Telling, Ending, Over}
use Rattle.listener.specs.declared.head.Head.{Head}
use Rattle.listener.specs.Machine.{phase_number, no_places, head_words, memory_of, head_of}

abbrev pub Small : ℕ → Type 0
Small n = n < 18446744073709551616

abbrev pub Smalls : List ℕ → Type 0
Smalls xs = All Small xs

abbrev small : ℕ → Bool
small n = ltb n 18446744073709551616

pub test_smalls : (xs : List ℕ) → every small xs ≡ true → Smalls xs
unfolding every
test_smalls [] e = tt
test_smalls (x ∷ xs) e = let h = and_parts (small x) (every small xs) e in (ltb-true x _ h.0, test_smalls xs h.1)

pub smalls_test : (xs : List ℕ) → Smalls xs → every small xs ≡ true
unfolding every
smalls_test [] a = refl
smalls_test (x ∷ xs) a = and_from (small x) (every small xs) (lt-ltb x _ a.0) (smalls_test xs a.1)

-- behind the end, too
pub small_at : (xs : List ℕ) (i : ℕ) → Smalls xs → Small (get_or xs i 0)
small_at xs i a =
    ⊎_elim (λ (l : i < length xs). All-get_or Small xs i 0 l a) (λ (l : length xs ≤ i). omega (arith, get_or_past xs i 0 l)) (cases_lt i (length xs))

-- THE RING

abbrev pub SmallEvent : Event → Type 0
SmallEvent e = each_number small e ≡ true

-- the events of a list have small numbers
abbrev pub SmallEvents : List Event → Type 0
SmallEvents es = every (each_number small) es ≡ true

pub small_event : (n t k w v : ℕ) → Small n → Small t → Small k → Small w → Small v → SmallEvent (record { heard = n; time = t; kind = k; who = w; value = v })
small_event n t k w v a b c d e = grind (arith, nat_tests)

small_events : (ring : List ℕ) (start len : ℕ) → Smalls ring → SmallEvents (events ring start len)
unfolding every
small_events ring start len a = each_slot (range_with_len start len)
  where
    slot_small : (i : ℕ) → SmallEvent (slot ring i)
    slot_small i = small_event _ _ _ _ _ (small_at ring _ a) (small_at ring _ a) (small_at ring _ a) (small_at ring _ a) (small_at ring _ a)

    each_slot : (is : List ℕ) → SmallEvents (map (slot ring) is)
    each_slot [] = refl
    each_slot (i ∷ is) = and_from (each_number small (slot ring i)) (every (each_number small) (map (slot ring) is)) (slot_small i) (each_slot is)

put_small : (e : Event) (es : List Event) → SmallEvent e → SmallEvents es → SmallEvents (put_last e es)
unfolding every put_last
put_small e [] s a = rw s refl
put_small e (f ∷ fs) s a =
    let h = and_parts (each_number small f) (every (each_number small) fs) a in
    let ih = put_small e fs s h.1 in
    elim (cases_Bool (every (before e) (f ∷ fs))) [
      | inl b ↦ rw b (rw s a)
      | inr b ↦ rw b (and_from (each_number small f) (every (each_number small) (put_last e fs)) h.0 ih)
    ]

nothings_small : (n : ℕ) → SmallEvents (replicate n nothing)
unfolding every
nothings_small zero = refl
nothings_small (suc n) = nothings_small n

pub put_in_small : (ring : List ℕ) (start len : ℕ) (e : Event) → Smalls ring → SmallEvent e → Smalls (with_put ring start len e)
put_in_small ring start len e a s =
    test_smalls _
    (laid_small ring start (put_last e (events ring start len)) (smalls_test ring a) (put_small e (events ring start len) s (small_events ring start len a)))

pub forgotten_small : (ring : List ℕ) (start n : ℕ) → Smalls ring → Smalls (with_forgotten ring start n)
forgotten_small ring start n a = test_smalls _ (laid_small ring start (replicate n nothing) (smalls_test ring a) (nothings_small n))

-- THE MEMORY

pub no_places_small : Smalls no_places
unfolding every
no_places_small = test_smalls no_places refl

six_small : (xs : List ℕ) → Smalls xs → Smalls (six xs)
six_small xs a = All-take Small 6 (xs ++ no_places) (All-append Small xs no_places a no_places_small)

-- the words of a state are small
pub record SmallHead (h : Head) : Type 0 where
  pub count : Small h.count
  pub latest : Small h.latest
  pub start : Small h.start
  pub len : Small h.len
  pub known : Small h.known
  pub upto : Small h.upto
  pub stale : Small h.stale
  pub at : Smalls h.at

words_small : (h : Head) → SmallHead h → Smalls (head_words h)
words_small h s = (s.count, (s.latest, (s.start, (s.len, (s.known, (s.upto, (s.stale, six_small h.at s.at)))))))

phase_small : (ph : Phase) → Small (phase_number ph)
phase_small New = omega arith
phase_small Waiting = omega arith
phase_small Telling = omega arith
phase_small Ending = omega arith
phase_small Over = omega arith

pub memory_small : (ph : Phase) (h : Head) (cells ring : List ℕ) → SmallHead h → Smalls cells → Smalls ring → Smalls (memory_of ph h cells ring)
memory_small ph h cells ring a b c = All-append Small (phase_number ph ∷ head_words h) (cells ++ ring) (phase_small ph, words_small h a) (All-append Small cells ring b c)

-- the state that a memory of small numbers has
pub head_small : (m : List ℕ) → Smalls m → SmallHead (head_of m)
head_small m a =
    record {
      count = small_at m 1 a;
      latest = small_at m 2 a;
      start = small_at m 3 a;
      len = small_at m 4 a;
      known = small_at m 5 a;
      upto = small_at m 6 a;
      stale = small_at m 7 a;
      at = read (8 ∷ 9 ∷ 10 ∷ 11 ∷ 12 ∷ 13 ∷ []);
    }
  where
    read : (is : List ℕ) → Smalls (map (λ i. get_or m i 0) is)
    read [] = tt
    read (i ∷ is) = (small_at m i a, read is)
