-- The listener's memory never grows, nor do its numbers: for every memory and whatever it is told.
use Rattle.std.proofs.Common.{◌≡◌, ℕ, zero, suc, Bool, true, false, ◌&&◌, eqb, List, length, get_or, drop, replicate, Some, None, sym, refl, ◌∙◌, arith}
use Rattle.std.proofs.ByRecursion.{All-take, All-drop}
use Rattle.std.proofs.lemmas.List.{length-drop, length-replicate}
use Rattle.std.proofs.lemmas.Bool.{and_parts, eqb-true}
use Rattle.std.proofs.lemmas.Bool.Decides.{nat_tests as by_tests}
use Rattle.timeline.specs.Lists.{pick, every}
use Rattle.timeline.specs.Ring.{ring_long}
use Rattle.patterns.specs.Patterns.{Pattern}
use Rattle.patterns.specs.Limits.{a_pattern, an_event}
use Rattle.patterns.specs.Kept.{pattern_cells}
use Rattle.patterns.proofs.Words.{pattern_cells_long, pattern_cells_small}
use Rattle.rows.specs.SearchLaws.{begin_at}
use Rattle.listener.specs.declared.head.Phase.{Phase}
use Rattle.listener.specs.declared.head.Phase.TheVariants.{New, Waiting, Telling, Ending}
use Rattle.listener.specs.declared.head.Head.{Head}
use Rattle.listener.specs.Engine.{ToldIt, begins, comes, ends, next, refused, Stepped, all_small}
use Rattle.listener.specs.Promise.{Steady}
use Rattle.listener.specs.Machine.{memory_long, phase_number, head_of, cells_of, ring_of, a_head, head_at, stepped, with_some, cursor_of, blank, begun, event_of, came, ending_head, ended, resumed, gone_on, machine, own}
use Rattle.listener.proofs.Words.{cells_length}
use Rattle.listener.proofs.Small.{Small, Smalls, test_smalls, smalls_test, small_event, SmallHead, head_small}
use Rattle.listener.proofs.SmallHeads.{blank_small, ending_small, bounds, begin_small}
use Rattle.listener.proofs.Written.{Parts, Written, written, tell_written, heard_written}

-- a memory is as long as another, and small if that is
abbrev Stays : List ℕ → List ℕ → Type 0
Stays m m₁ = (length m₁ ≡ length m) × (Smalls m → Smalls m₁)

itself : (m : List ℕ) → Stays m m
itself m = (refl, λ a. a)

module _ (m : List ℕ) (long : length m ≡ memory_long) where
  stays : (m₁ : List ℕ) → Written (Smalls m) m₁ → Stays m m₁
  stays m₁ w = (w.long ∙ sym long, w.smalls)

  ring_whole : length (ring_of m) ≡ ring_long
  ring_whole = length-drop 419 m ∙ omega arith

  -- the pattern and the ring as they were, beside a state
  as_it_was : (h : Head) → (Smalls m → SmallHead h) → Parts (Smalls m) h (cells_of m) (ring_of m)
  as_it_was h state =
      record {
        wide = cells_length m long;
        long = ring_whole;
        state = state;
        words = λ a. All-take Small 405 (drop 14 m) (All-drop Small 14 m a);
        slots = λ a. All-drop Small 419 m a;
      }

  -- a step that has a state, or refuses
  with_head :
      (ph : Phase) (other : Stepped) (f : Head → Stepped) → Stays m other.memory → (a_head (head_of m) ≡ true → Stays m (f (head_of m)).memory)
      → Stays m (with_some (head_at ph m) other f).memory
  unfolding head_at
  with_head ph other f without there =
      go (eqb (get_or m 0 0) (phase_number ph) && a_head (head_of m))
      (λ e. there (and_parts (eqb (get_or m 0 0) (phase_number ph)) (a_head (head_of m)) e).1)
    where
      go : (b : Bool) → (b ≡ true → Stays m (f (head_of m)).memory) → Stays m (with_some (pick b (Some (head_of m)) None) other f).memory
      go true y = y refl
      go false y = without

  -- one of two, by a test
  by_test : (b : Bool) (one other : Stepped) → (b ≡ true → Stays m one.memory) → Stays m other.memory → Stays m (pick b one other).memory
  by_test true one other p q = p refl
  by_test false one other p q = q

  begun_stays : (p : Pattern) → Stays m (begun m p).memory
  unfolding begun
  begun_stays p =
      with_head New _ _ (itself m)
      (λ e.
      by_test (a_pattern p) _ _
      (λ q.
      stays _
      (written Waiting blank (pattern_cells p) (ring_of m)
      record {
        wide = pattern_cells_long p;
        long = ring_whole;
        state = λ a. blank_small;
        words = λ a. test_smalls (pattern_cells p) (pattern_cells_small p q);
        slots = λ a. All-drop Small 419 m a;
      }))
      (itself m))

  came_stays : (t k w v : ℕ) → Stays m (came m t k w v).memory
  unfolding came
  came_stays t k w v =
      let h : Head = head_of m in
      with_head Waiting _ _ (itself m)
      (λ ok.
      by_test (an_event (event_of h.count t k w v)) _ _
      (λ q.
      let b = bounds h ok in
      let l : Small t = grind (arith, by_tests) in
      stays _
      (heard_written h (cells_of m) (ring_of m) (event_of h.count t k w v) b (as_it_was h (head_small m))
      (small_event h.count t k w v (omega arith) l (grind (arith, by_tests)) (grind (arith, by_tests)) (grind (arith, by_tests))) l))
      (itself m))

  ended_stays : Stays m (ended m).memory
  unfolding ended
  ended_stays =
      let h : Head = head_of m in
      with_head Waiting _ _ (itself m)
      (λ ok.
      stays _
      (tell_written Ending (ending_head h) (cells_of m) (ring_of m) (as_it_was (ending_head h) (λ a. ending_small h (head_small m a))) (begin_at h.known)
      (λ a. begin_small h.known (head_small m a).known)))

  resumed_stays : (ph : Phase) → Stays m (resumed ph m (head_of m)).memory
  resumed_stays ph =
      let h : Head = head_of m in
      stays _ (tell_written ph h (cells_of m) (ring_of m) (as_it_was h (head_small m)) (cursor_of (cells_of m) h) (λ a. (head_small m a).at))

  gone_on_stays : Stays m (gone_on m).memory
  unfolding gone_on
  gone_on_stays =
      with_head Telling _ (resumed Telling m) (with_head Ending _ (resumed Ending m) (itself m) (λ ok. resumed_stays Ending)) (λ ok. resumed_stays Telling)

  machine_stays : (ev : ToldIt) → Stays m (machine m ev).memory
  unfolding machine
  machine_stays (begins p) = begun_stays p
  machine_stays (comes t k w v) = came_stays t k w v
  machine_stays ends = ended_stays
  machine_stays next = gone_on_stays

own_stays : (m : List ℕ) (ev : ToldIt) → Stays m (own.step m ev).memory
unfolding own
own_stays m ev = go (eqb (length m) memory_long) (eqb-true (length m) memory_long)
  where
    go : (b : Bool) → (b ≡ true → length m ≡ memory_long) → Stays m (pick b (machine m ev) (stepped m (refused 2))).memory
    go true l = machine_stays m (l refl) ev
    go false l = itself m

zeros : (n : ℕ) → every (λ x. eqb x 0) (replicate n 0) ≡ true
unfolding every
zeros zero = refl
zeros (suc n) = zeros n

pub steady_proof : Steady own
unfolding Steady all_small own
steady_proof = (
  omega (arith, length-replicate {A = ℕ} memory_long 0),
  zeros memory_long,
  λ m ev. ((own_stays m ev).0, λ a. smalls_test (own.step m ev).memory ((own_stays m ev).1 (test_smalls m a))),
)
