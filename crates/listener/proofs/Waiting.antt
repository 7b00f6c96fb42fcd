-- The listener while it waits: its memory is that of what came, and each event, and the end, leads on from one such memory as it should.
use Rattle.std.proofs.Common.{◌≡◌, ℕ, suc, ◌+◌, ◌-◌, ◌%◌, ◌<◌, ◌≤◌, Bool, true, false, ltb, ◌⊎◌, List, [], ◌∷◌, ◌++◌, length, sym, refl, ap, ◌∙◌, subst, ap₂, inl, inr, add-one, arith}
use Rattle.std.proofs.lemmas.Bool.{ltb-true, ltb-false, and_parts}
use Rattle.std.proofs.lemmas.Bool.Decides.{nat_tests as by_tests}
use Rattle.timeline.specs.declared.events.Event.{Event}
use Rattle.timeline.specs.Lists.{pick, those, each}
use Rattle.timeline.specs.Order.{before, latest}
use Rattle.timeline.specs.Ring.{capacity, events, laid}
use Rattle.timeline.proofs.Sorting.{Ord}
use Rattle.timeline.proofs.Order.{sorted_ord, length_sorted, latest_snoc}
use Rattle.timeline.proofs.Laid.{laid_long, events_of_laid}
use Rattle.patterns.specs.Patterns.{Pattern, named}
use Rattle.patterns.specs.Limits.{an_event}
use Rattle.patterns.specs.Kept.{pattern_cells}
use Rattle.rows.specs.Known.{heard_to, too_late, held, is_held, numbers, newly, with_number}
use Rattle.rows.specs.Newly.{EndsHeld}
use Rattle.rows.specs.Finding.{placed, to_come}
use Rattle.rows.specs.SearchLaws.{begin_at, Just}
use Rattle.rows.proofs.Newly.{ends_held}
use Rattle.rows.proofs.AllFound.{rest_told}
use Rattle.listener.specs.declared.head.Phase.TheVariants.{Waiting, Telling, Ending}
use Rattle.listener.specs.declared.head.Head.{Head}
use Rattle.listener.specs.Engine.{waits, late, over, refused, Stepped, ends}
use Rattle.listener.specs.Promise.{said}
use Rattle.listener.specs.Machine.{room, below_run, stale_with, tell_from, memory_of, settled, counted_head, ending_head, heard, own}
use Rattle.listener.specs.Holding.{held_list, waiting_head, zero_ring, waiting_memory}
use Rattle.listener.proofs.Runs.{Telling as TellsThen, Good, most, left_over}
use Rattle.listener.proofs.Steps.{Sound, head_ok, comes_waiting, ends_waiting, next_telling, next_ending}
use Rattle.listener.proofs.Tells.{KeptAs, told, tells_all}
use Rattle.listener.proofs.Fronts.{front_passes, back_fails, time_lower, below_run_is, below_run_most}
use Rattle.listener.proofs.Holding.{Numbered, numbered_later, numbered_more, heard_those, with_came, held_is}
use Rattle.listener.proofs.Hearing.{heard_late, heard_full, heard_counts}
use Rattle.listener.proofs.Counts.{zero_long, listed_back, stale, stale_same, telling, telling_is, ring_is}
use Rattle.listener.proofs.Counted.{placed_first, told_is, settled_is, placed_is, sound_telling}

-- times are below 2^62
abbrev time_limit : ℕ
time_limit = 4611686018427387904

-- the memory of what came: n events, of which es counted
pub record Waits (p : Pattern) (m : List ℕ) (n : ℕ) (es : List Event) : Type 0 where
  pub slot : ℕ
  pub round : slot < capacity
  pub numbered : Numbered n es
  pub early : latest es < time_limit
  pub few : length (held_list p es) ≤ room
  pub whole : m ≡ waiting_memory p n es slot

module _ (p : Pattern) (kept : KeptAs (pattern_cells p) p) where
  abbrev cells : List ℕ
  cells = pattern_cells p

  abbrev ring_at : List Event → ℕ → List ℕ
  ring_at es s = laid zero_ring s (held_list p es)

  sound : (n : ℕ) (es : List Event) (s : ℕ) → n < time_limit → s < capacity → latest es < time_limit → length (held_list p es) ≤ room
      → Sound (waiting_head p n es s) cells (ring_at es s)
  sound n es s l r t few =
      record {
        places = refl;
        ok = head_ok n (latest es) s (length (held_list p es)) _ 0 0 l t r (omega (arith, few)) (below_run_most (heard_to p es + 1) (held_list p es)) (omega arith) (omega arith);
        wide = kept.wide;
        long = laid_long zero_ring s (held_list p es) ∙ zero_long;
      }

  -- an event comes while the listener waits
  heard_is :
      (n : ℕ) (es : List Event) (s : ℕ) (f : Event) → Sound (waiting_head p n es s) cells (ring_at es s) → an_event f ≡ true
      → own.step (waiting_memory p n es s) (said f) ≡ heard (waiting_head p n es s) cells (ring_at es s) (with_number n f)
  heard_is n es s f ok e = comes_waiting (waiting_head p n es s) cells (ring_at es s) ok f.time f.kind f.who f.value e

  pub too_late_waits :
      (m : List ℕ) (n : ℕ) (es : List Event) (f : Event) → n < most → Waits p m n es → an_event f ≡ true → too_late p es f ≡ true
      → TellsThen own (λ m₁. Waits p m₁ (suc n) es) late (own.step m (said f)) []
  too_late_waits m n es f l w e q =
      let s = w.slot in
      let ok = sound n es s (omega arith) w.round w.early w.few in
      let step : own.step m (said f) ≡ record { memory = memory_of Waiting (counted_head (waiting_head p n es s)) cells (ring_at es s); act = late } =
      ap (λ (x : List ℕ). own.step x (said f)) w.whole ∙ heard_is n es s f ok e ∙ heard_late p cells kept.means (waiting_head p n es s) (ring_at es s) (with_number n f) q in (
        ap (λ (st : Stepped). st.act) step,
        record {
          slot = s;
          round = w.round;
          numbered = numbered_later n es w.numbered;
          early = w.early;
          few = w.few;
          whole = ap (λ (st : Stepped). st.memory) step ∙ ap (λ (c : ℕ). waiting_memory p c es s) (add-one n);
        },
      )

  module _ (m : List ℕ) (n : ℕ) (es : List Event) (f : Event) (l : n < most) (w : Waits p m n es) (e : an_event f ≡ true) (q : too_late p es f ≡ false) where
    abbrev s : ℕ
    s = w.slot

    abbrev num : Numbered n es
    num = w.numbered

    abbrev h : Head
    h = waiting_head p n es s

    abbrev now_held : List ℕ
    now_held = ring_at es s

    abbrev more : List Event
    more = es ++ with_number n f ∷ []

    abbrev pub room_test : Bool
    room_test = ltb room (h.len - stale_with p h (events now_held s h.len) (with_number n f) + pick (named p (with_number n f)) 1 0)

    ok : Sound h cells now_held
    ok = sound n es s (omega arith) w.round w.early w.few

    pub room_is : room_test ≡ ltb room (held p more)
    room_is =
        ap (λ (k : ℕ). ltb room (length (held_list p es) - k + pick (named p (with_number n f)) 1 0)) (stale_same p n es f num q s w.few)
        ∙ ap (ltb room) (held_is p n es f num q)

    came_is : own.step m (said f) ≡ heard h cells now_held (with_number n f)
    came_is = ap (λ (x : List ℕ). own.step x (said f)) w.whole ∙ heard_is n es s f ok e

    pub full : room_test ≡ true → TellsThen own (λ m₁. Unit) (refused 8) (own.step m (said f)) [] × (room < held p more)
    full r = (
      (ap (λ (st : Stepped). st.act) (came_is ∙ heard_full p cells kept.means h now_held (with_number n f) q r), tt),
      ltb-true room (held p more) (sym room_is ∙ r),
    )

    abbrev listed : List Event
    listed = with_came p n es f num q

    abbrev told_in : Head
    told_in = telling p n es f num q s w.few

    abbrev with_it : List ℕ
    with_it = laid zero_ring s listed

    early_more : latest more < time_limit
    early_more =
        let t = ltb-true f.time time_limit (and_parts (ltb f.time time_limit) (ltb f.kind 65536) (and_parts _ _ e).0).0 in
        let l = latest_snoc es (with_number n f) in
        let w₁ = w.early in
        grind (arith, by_tests)

    next_waits : room_test ≡ false → Waits p (settled Telling told_in cells with_it).memory (suc n) more
    unfolding held_list
    next_waits r =
        record {
          slot = (s + stale p n es f num q s w.few) % capacity;
          round = omega arith;
          numbered = numbered_more n es f num;
          early = early_more;
          few = omega (arith, length_sorted (those (is_held p (heard_to p more)) more), ltb-false room (held p more) (sym room_is ∙ r));
          whole = settled_is p n es f num q s w.few;
        }

    told_step : room_test ≡ false → own.step m (said f) ≡ tell_from Telling told_in cells with_it (begin_at h.known)
    told_step r =
        came_is ∙ heard_counts p cells kept.means h now_held (with_number n f) q r
        ∙ ap₂ (λ (x : Head) (y : List ℕ). tell_from Telling x cells y (begin_at h.known)) (telling_is p n es f num q s w.few) (ring_is p n es f num q s w.few)

    pub counts : room_test ≡ false → TellsThen own (λ m₁. Waits p m₁ (suc n) more) waits (own.step m (said f)) (newly p es more)
    counts r =
        let D : List ℕ → Type 0 = λ m₁. Waits p m₁ (suc n) more in
        let back = listed_back p n es f num q s w.few in
        let rows : List (List ℕ) = told (events with_it s (length listed)) (to_come (events with_it s (length listed)) p told_in.upto (begin_at h.known)) in
        let rows_are : rows ≡ newly p es more =
        ap (λ (xs : List Event). told xs (to_come xs p told_in.upto (begin_at h.known))) back ∙ told_is p n es f num q s w.few kept.some in
        let t : TellsThen own D waits (tell_from Telling told_in cells with_it (begin_at h.known)) rows =
        tells_all p cells with_it kept Telling (λ x y. next_telling x cells with_it y) D
        (to_come (events with_it s (length listed)) p told_in.upto (begin_at h.known)) told_in (begin_at h.known)
        (sound_telling p n es f num q s w.few w.round (omega arith) early_more kept.wide (omega arith)) refl refl
        (subst (λ (xs : List Event). placed (length xs) told_in.upto (length p.steps) (begin_at h.known) ≡ true) (sym back) (placed_is p n es f num q s w.few kept.some kept.few))
        (next_waits r) in
        rw (told_step r, sym rows_are) t

  -- nothing more comes
  module _ (m : List ℕ) (n : ℕ) (es : List Event) (l : n ≤ most) (w : Waits p m n es) where
    abbrev at_slot : ℕ
    at_slot = w.slot

    abbrev all_held : List Event
    all_held = held_list p es

    abbrev mark : ℕ
    mark = heard_to p es

    abbrev known_ones : ℕ
    known_ones = below_run (mark + 1) all_held

    abbrev ending : Head
    ending = ending_head (waiting_head p n es at_slot)

    held_ord : Ord before all_held
    unfolding held_list
    held_ord = sorted_ord (those (is_held p mark) es)

    all_back : events (ring_at es at_slot) at_slot (length all_held) ≡ all_held
    all_back = events_of_laid zero_ring at_slot all_held zero_long (omega (arith, w.few))

    sound_ending : Sound ending cells (ring_at es at_slot)
    sound_ending =
        record {
          places = refl;
          ok =
              head_ok n (latest es) at_slot (length all_held) known_ones (length all_held) (length all_held) (omega arith) w.early w.round (omega (arith, w.few))
              (below_run_most (mark + 1) all_held) (omega arith) (omega arith);
          wide = kept.wide;
          long = laid_long zero_ring at_slot all_held ∙ zero_long;
        }

    just_left : Just all_held (λ x. ltb mark x.time) known_ones (length all_held)
    just_left =
        let run_is = below_run_is (mark + 1) all_held held_ord in
        record {
          alike = λ x y h. grind (arith, by_tests);
          lower = λ i a. let t = front_passes (λ x. ltb x.time (mark + 1)) (time_lower (mark + 1)) all_held held_ord i (omega (arith, run_is)) in grind (arith, by_tests);
          mid = λ i a b. let t = back_fails (λ x. ltb x.time (mark + 1)) (time_lower (mark + 1)) all_held held_ord i (omega (arith, run_is)) b in grind (arith, by_tests);
          upper = λ i a b. absurd (omega arith);
        }

    left_told : told all_held (to_come all_held p (length all_held) (begin_at known_ones)) ≡ left_over p es
    unfolding held_list EndsHeld
    left_told =
        rest_told p (those (is_held p mark) es) (λ x. ltb mark x.time) known_ones (length all_held)
        (heard_those (is_held p mark) 0 es w.numbered.0) kept.some (below_run_most (mark + 1) all_held) (omega arith) just_left
        ∙ ap (each numbers) (sym (ends_held p es))

    pub ends_over : TellsThen own (λ m₁. Unit) over (own.step m ends) (left_over p es)
    ends_over =
        let here : List Event = events (ring_at es at_slot) at_slot (length all_held) in
        let rows : List (List ℕ) = told here (to_come here p (length all_held) (begin_at known_ones)) in
        let rows_are : rows ≡ left_over p es = ap (λ (xs : List Event). told xs (to_come xs p (length all_held) (begin_at known_ones))) all_back ∙ left_told in
        let t : TellsThen own (λ m₁. Unit) over (tell_from Ending ending cells (ring_at es at_slot) (begin_at known_ones)) rows =
        tells_all p cells (ring_at es at_slot) kept Ending (λ x y. next_ending x cells (ring_at es at_slot) y) (λ m₁. Unit)
        (to_come here p (length all_held) (begin_at known_ones)) ending (begin_at known_ones) sound_ending refl refl
        (subst (λ (xs : List Event). placed (length xs) (length all_held) (length p.steps) (begin_at known_ones) ≡ true) (sym all_back)
        (placed_first (length all_held) (length all_held) (length p.steps) known_ones kept.some kept.few (omega arith) (below_run_most (mark + 1) all_held))) tt in
        let step : own.step m ends ≡ tell_from Ending ending cells (ring_at es at_slot) (begin_at known_ones) =
        ap (λ (x : List ℕ). own.step x ends) w.whole
        ∙ ends_waiting (waiting_head p n es at_slot) cells (ring_at es at_slot) (sound n es at_slot (omega arith) w.round w.early w.few) in
        rw (step, sym rows_are) t

  pub good : Good own p (Waits p)
  good =
      record {
        too = too_late_waits;
        not_too = λ m n es f l w e q. by_room m n es f l w e q (room_test m n es f l w e q) refl;
        last = ends_over;
      }
    where
      by_room :
          (m : List ℕ) (n : ℕ) (es : List Event) (f : Event) (l : n < most) (w : Waits p m n es) (e : an_event f ≡ true) (q : too_late p es f ≡ false)
          (b : Bool) → room_test m n es f l w e q ≡ b
          → TellsThen own (λ m₁. Waits p m₁ (suc n) (es ++ with_number n f ∷ [])) waits (own.step m (said f)) (newly p es (es ++ with_number n f ∷ []))
          ⊎ (TellsThen own (λ m₁. Unit) (refused 8) (own.step m (said f)) [] × (8192 < held p (es ++ with_number n f ∷ [])))
      by_room m n es f l w e q true r = inr (full m n es f l w e q r)
      by_room m n es f l w e q false r = inl (counts m n es f l w e q r)
