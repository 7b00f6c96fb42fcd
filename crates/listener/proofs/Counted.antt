-- An event that counts, to its end: which rows are told, and that the memory is then that of what came.
use Rattle.std.proofs.Common.{◌≡◌, ℕ, suc, ◌+◌, ◌-◌, ◌%◌, ◌<◌, ◌≤◌, Bool, true, false, not, ◌&&◌, ltb, leb, List, length, drop, sym, refl, ap, ◌∙◌, arith}
use Rattle.std.proofs.lemmas.List.{length-drop}
use Rattle.std.proofs.lemmas.Bool.Decides.{nat_tests}
use Rattle.timeline.specs.declared.events.Event.{Event}
use Rattle.timeline.specs.Lists.{those, every, each, run}
use Rattle.timeline.specs.Order.{before, latest}
use Rattle.timeline.specs.Ring.{capacity, laid, with_forgotten}
use Rattle.timeline.proofs.Sorting.{Ord}
use Rattle.timeline.proofs.Order.{sorted_ord}
use Rattle.timeline.proofs.Laid.{laid_long, laid_forget}
use Rattle.patterns.specs.Patterns.{Pattern}
use Rattle.patterns.specs.Kept.{pattern_cells}
use Rattle.rows.specs.Known.{heard_to, too_late, is_held, numbers, newly}
use Rattle.rows.specs.Newly.{settled as was_settled, NewlyHeld}
use Rattle.rows.specs.Finding.{row_of, placed, to_come}
use Rattle.rows.specs.SearchLaws.{begin_at, Just}
use Rattle.rows.proofs.Newly.{newly_held}
use Rattle.rows.proofs.AllFound.{rest_told}
use Rattle.listener.specs.declared.head.Phase.TheVariants.{Telling}
use Rattle.listener.specs.Machine.{room, below_run, settled}
use Rattle.listener.specs.Holding.{held_list, zero_ring, waiting_memory}
use Rattle.listener.proofs.Fronts.{Lower, front_passes, back_fails, time_lower, below_run_is, below_run_drop, below_run_most, below_run_grows}
use Rattle.listener.proofs.Steps.{Sound, head_ok}
use Rattle.listener.proofs.Holding.{Numbered, numbered_more, came, new, with_came, stale_is, forgotten, known_is, upto_is, heard_those}
use Rattle.listener.proofs.Counts.{zero_long, listed_few, mark, mark₁, known, stale, upto, telling}

settled_lower : (a : ℕ) (c : Event) → Lower (was_settled a c)
settled_lower a c x y q h = grind (arith, nat_tests)

-- a search may begin at any of the last events
pub placed_first : (l u k a : ℕ) → 1 ≤ k → k ≤ 6 → u ≤ l → a ≤ u → placed l u k (begin_at a) ≡ true
unfolding every run
placed_first l u k a h₁ h₂ h₃ h₄ = grind (arith, nat_tests)

module _ (p : Pattern) (n : ℕ) (es : List Event) (f : Event) (num : Numbered n es) (in_time : too_late p es f ≡ false) (s : ℕ) (few : length (held_list p es) ≤ room) where
  abbrev listed : List Event
  listed = with_came p n es f num in_time

  abbrev among : List Event
  among = those (is_held p (heard_to p es)) (new p n es f num in_time)

  abbrev m : ℕ
  m = mark p n es f num in_time s few

  abbrev m₁ : ℕ
  m₁ = mark₁ p n es f num in_time s few

  abbrev k : ℕ
  k = known p n es f num in_time s few

  abbrev u : ℕ
  u = upto p n es f num in_time s few

  abbrev gone : ℕ
  gone = stale p n es f num in_time s few

  listed_ord : Ord before listed
  unfolding with_came
  listed_ord = sorted_ord among

  up_to : k ≤ u
  up_to = omega (arith, upto_is p n es f num in_time)

  u_most : u ≤ length listed
  u_most = omega (arith, sym (below_run_is (m₁ + 1) listed listed_ord), below_run_most (m₁ + 1) listed)

  stale_is_run : below_run (m₁ - p.within) listed ≡ gone
  stale_is_run = below_run_is (m₁ - p.within) listed listed_ord ∙ sym (stale_is p n es f num in_time)

  gone_first : gone ≤ u
  gone_first =
      omega (arith, stale_is_run, below_run_grows (m₁ - p.within) (m₁ + 1) listed (omega arith), below_run_is (m₁ + 1) listed listed_ord)

  abbrev c : Event
  c = came p n es f num in_time

  abbrev below : Event → Bool
  below x = ltb x.time (m₁ + 1)

  -- the last events that rows are told of are those that are not settled and not above the new mark
  abbrev asked : Event → Bool
  asked x = leb x.time m₁ && not (was_settled m c x)

  just : Just listed asked k u
  just =
      record {
        alike = λ x y h. grind (arith, nat_tests);
        lower = λ i l. let q = front_passes (was_settled m c) (settled_lower m c) listed listed_ord i (omega (arith, known_is p n es f num in_time)) in grind (arith, nat_tests);
        mid =
            λ i a b.
            let q = back_fails (was_settled m c) (settled_lower m c) listed listed_ord i (omega (arith, known_is p n es f num in_time)) (omega (arith, u_most)) in
            let t = front_passes below (time_lower (m₁ + 1)) listed listed_ord i b in
            grind (arith, nat_tests);
        upper = λ i a b. let t = back_fails below (time_lower (m₁ + 1)) listed listed_ord i a b in grind (arith, nat_tests);
      }

  pub told_is :
      1 ≤ length p.steps
      → each (λ path. numbers (row_of listed path)) (to_come listed p u (begin_at k)) ≡ newly p es (new p n es f num in_time)
  unfolding with_came NewlyHeld
  told_is some =
      let heard = (numbered_more n es f num).0 in
      rest_told p among asked k u (heard_those (is_held p (heard_to p es)) 0 (new p n es f num in_time) heard) some up_to u_most just
      ∙ ap (each numbers) (sym (newly_held p es c some heard in_time))

  left_is : drop gone listed ≡ held_list p (new p n es f num in_time)
  left_is = forgotten p n es f num in_time

  len_left : length listed - gone ≡ length (held_list p (new p n es f num in_time))
  len_left = sym (length-drop gone listed) ∙ ap length left_is

  known_left : u - gone ≡ below_run (m₁ + 1) (held_list p (new p n es f num in_time))
  known_left =
      let run_is = below_run_is (m₁ + 1) listed listed_ord in
      let split = below_run_drop (m₁ + 1) gone listed (omega (arith, run_is, gone_first)) in
      let rest = ap (below_run (m₁ + 1)) left_is in
      omega (arith, run_is, split, rest)

  ring_left : with_forgotten (laid zero_ring s listed) s gone ≡ laid zero_ring ((s + gone) % capacity) (held_list p (new p n es f num in_time))
  ring_left =
      laid_forget s gone listed (omega (arith, gone_first, u_most)) (omega (arith, listed_few p n es f num in_time s few))
      ∙ ap (laid zero_ring ((s + gone) % capacity)) left_is

  pub settled_is :
      (settled Telling (telling p n es f num in_time s few) (pattern_cells p) (laid zero_ring s listed)).memory
      ≡ waiting_memory p (suc n) (new p n es f num in_time) ((s + gone) % capacity)
  settled_is = rw (len_left, known_left, ring_left) refl

  pub placed_is : 1 ≤ length p.steps → length p.steps ≤ 6 → placed (length listed) u (length p.steps) (begin_at k) ≡ true
  placed_is some six = placed_first (length listed) u (length p.steps) k some six u_most up_to

  pub sound_telling :
      s < capacity → n < 4611686018427387904 → latest (new p n es f num in_time) < 4611686018427387904 → length (pattern_cells p) ≡ 405
      → suc n < 4611686018427387904 → Sound (telling p n es f num in_time s few) (pattern_cells p) (laid zero_ring s listed)
  sound_telling r l t wide l₁ =
      let a = listed_few p n es f num in_time s few in
      let b = u_most in
      let d = up_to in
      let g = gone_first in
      record {
        places = refl;
        ok = head_ok (suc n) (latest (new p n es f num in_time)) s (length listed) k u gone l₁ t r a (omega (arith, d, b)) b (omega (arith, g, b));
        wide = wide;
        long = laid_long zero_ring s listed ∙ zero_long;
      }
