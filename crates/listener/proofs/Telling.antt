-- All events one after the other: what was told is what is known, and the memory holds just what could matter.
use Rattle.std.proofs.Common.{◌≡◌, ℕ, suc, ◌+◌, ◌<◌, ◌≤◌, Bool, true, false, leb, List, [], ◌∷◌, ◌++◌, length, sym, refl, ap, ◌∙◌, subst, append_assoc, append-nil, arith, lt-ltb}
use Rattle.std.proofs.lemmas.Bool.{and_parts}
use Rattle.timeline.specs.declared.events.Event.{Event}
use Rattle.timeline.specs.Lists.{pick, every, each, those, flat}
use Rattle.timeline.specs.Order.{sorted, last_of}
use Rattle.patterns.specs.Patterns.{Step, Pattern}
use Rattle.patterns.specs.Limits.{a_pattern, an_event}
use Rattle.patterns.specs.Kept.{pattern_cells}
use Rattle.rows.specs.Rows.{rows, in_order}
use Rattle.rows.specs.Known.{heard_to, known_rows, too_late, held, numbers, newly, counted_after, counted, with_number}
use Rattle.listener.specs.Engine.{begins, ends, waits, late, over, refused, runs}
use Rattle.listener.specs.Promise.{said}
use Rattle.listener.specs.Machine.{own}
use Rattle.listener.specs.Holding.{waiting_memory}
use Rattle.listener.specs.Story.{Heard, Listened, ToldWhatIsKnown, ToldAll, HoldsJust, FullExactly}
use Rattle.listener.proofs.Runs.{tell_all, most, left_over}
use Rattle.listener.proofs.Stories.{ran_as, known_more, known_then_left}
use Rattle.listener.proofs.Tells.{KeptAs}
use Rattle.listener.proofs.Waiting.{Waits, too_late_waits, room_test, room_is, full, counts, ends_over}
use Rattle.listener.proofs.Whole.{kept_as, first_waits}

module _ (p : Pattern) (ok : a_pattern p ≡ true) where
  abbrev known : List Event → List (List ℕ)
  known es = each numbers (known_rows p es)

  abbrev counted_with : ℕ → List Event → Event → Bool → List Event
  counted_with n es f b = pick b es (es ++ with_number n f ∷ [])

  -- one event that was not refused
  one_heard :
      (m : List ℕ) (n : ℕ) (es : List Event) (f : Event) (k : ℕ) → n < most → Waits p m n es → an_event f ≡ true → (runs k own m (said f) []).end < 2
      → (known es ++ (runs k own m (said f) []).rows_told ≡ known (counted_with n es f (too_late p es f)))
      × Waits p (runs k own m (said f) []).memory (suc n) (counted_with n es f (too_late p es f))
  one_heard m n es f k l w e short = by_late (too_late p es f) refl
    where
      more : List Event
      more = es ++ with_number n f ∷ []

      ended : (runs k own m (said f) []).end ≡ 1000 → ⊥
      ended q = omega arith

      by_room : (q : too_late p es f ≡ false) (b : Bool) → room_test p (kept_as p ok) m n es f l w e q ≡ b
          → (known es ++ (runs k own m (said f) []).rows_told ≡ known more) × Waits p (runs k own m (said f) []).memory (suc n) more
      by_room q true r =
          let t = ran_as own (λ m₁. Unit) (refused 8) [] m (said f) k tt (full p (kept_as p ok) m n es f l w e q r).0 ended in
          absurd (omega (arith, t.0))
      by_room q false r =
          let t = ran_as own (λ m₁. Waits p m₁ (suc n) more) waits (newly p es more) m (said f) k tt (counts p (kept_as p ok) m n es f l w e q r) ended in
          (ap (λ (x : List (List ℕ)). known es ++ x) t.1 ∙ known_more p n es f w.numbered q, t.2)

      by_late : (b : Bool) → too_late p es f ≡ b
          → (known es ++ (runs k own m (said f) []).rows_told ≡ known (counted_with n es f b)) × Waits p (runs k own m (said f) []).memory (suc n) (counted_with n es f b)
      by_late true q =
          let t = ran_as own (λ m₁. Waits p m₁ (suc n) es) late [] m (said f) k tt (too_late_waits p (kept_as p ok) m n es f l w e q) ended in
          (ap (λ (x : List (List ℕ)). known es ++ x) t.1 ∙ append-nil (known es), t.2)
      by_late false q = by_room q (room_test p (kept_as p ok) m n es f l w e q) refl

  pub all_heard :
      (fs : List Event) (m : List ℕ) (n : ℕ) (es : List Event) (m₁ : List ℕ) (rs : List (List ℕ)) → every an_event fs ≡ true → n + length fs ≤ most
      → Waits p m n es → Heard own m fs m₁ rs
      → (known es ++ rs ≡ known (counted_after p n es fs)) × Waits p m₁ (n + length fs) (counted_after p n es fs)
  unfolding Heard counted_after every
  all_heard [] m n es m₁ rs a l w (same, none) =
      let z : n ≡ n + 0 = omega arith in
      (ap (λ (x : List (List ℕ)). known es ++ x) none ∙ append-nil (known es), subst (λ (x : ℕ). Waits p m₁ x es) z (subst (λ (x : List ℕ). Waits p x n es) (sym same) w))
  all_heard (f ∷ fs) m n es m₁ rs a l w (k, rest, short, is, heard) =
      let ok₁ = and_parts (an_event f) (every an_event fs) a in
      let es₁ : List Event = counted_with n es f (too_late p es f) in
      let one = one_heard m n es f k (omega arith) w ok₁.0 short in
      let ih = all_heard fs (runs k own m (said f) []).memory (suc n) es₁ m₁ rest ok₁.1 (omega arith) one.1 heard in
      let z : suc n + length fs ≡ n + suc (length fs) = omega arith in (
        ap (λ (x : List (List ℕ)). known es ++ x) is ∙ sym (append_assoc (known es) (runs k own m (said f) []).rows_told rest) ∙ ap (λ (x : List (List ℕ)). x ++ rest) one.0 ∙ ih.0,
        subst (λ (x : ℕ). Waits p m₁ x (counted_after p (suc n) es₁ fs)) z ih.1,
      )

no_rows : (w : ℕ) (ss : List Step) → 1 ≤ length ss → rows [] w ss [] ≡ []
unfolding rows those flat
no_rows w [] l = absurd (omega arith)
no_rows w (s ∷ ss) l = refl

nothing_known : (p : Pattern) → 1 ≤ length p.steps → known_rows p [] ≡ []
unfolding sorted in_order those
nothing_known p l = ap (λ (rs : List (List Event)). those (λ r. leb (last_of r).time (heard_to p [])) (in_order rs)) (no_rows p.within p.steps l)

-- what a listening comes to
listened :
    (p : Pattern) (fs : List Event) (m : List ℕ) (rs : List (List ℕ)) → (l : Listened p fs m rs)
    → (rs ≡ each numbers (known_rows p (counted p fs))) × Waits p m (0 + length fs) (counted p fs)
unfolding each
listened p fs m rs (ok, es, l, (k, begun, heard)) =
    let first = ran_as own (λ m₁. Waits p m₁ 0 []) waits [] own.start (begins p) k tt (first_waits p ok) (λ q. omega (arith, begun, q)) in
    let all = all_heard p ok fs (runs k own own.start (begins p) []).memory 0 [] m rs es (omega arith) first.2 heard in
    (ap (λ (x : List (List Event)). each numbers x ++ rs) (sym (nothing_known p (kept_as p ok).some)) ∙ all.0, all.1)

pub told_what_is_known : ToldWhatIsKnown
unfolding ToldWhatIsKnown
told_what_is_known p fs m rs l = (listened p fs m rs l).0

pub told_all : ToldAll
unfolding ToldAll
told_all p fs m rs k l done =
    let all = listened p fs m rs l in
    let t = ran_as own (λ m₁. Unit) over (left_over p (counted p fs)) m ends k tt (ends_over p (kept_as p l.0) m (0 + length fs) (counted p fs) (omega (arith, l.2)) all.1) (λ q. omega (arith, done, q)) in
    ap (λ (x : List (List ℕ)). rs ++ x) t.1 ∙ ap (λ (x : List (List ℕ)). x ++ left_over p (counted p fs)) all.0 ∙ known_then_left p (counted p fs)

pub holds_just : HoldsJust
unfolding HoldsJust
holds_just p fs m rs l =
    let w = (listened p fs m rs l).1 in
    let z : 0 + length fs ≡ length fs = omega arith in
    (w.slot, w.round, w.whole ∙ ap (λ (n : ℕ). waiting_memory p n (counted p fs) w.slot) z)

pub full_exactly : FullExactly
unfolding FullExactly
full_exactly p fs m rs f l e short q =
    let kept = kept_as p l.0 in
    let es = counted p fs in
    let z : 0 + length fs ≡ length fs = omega arith in
    let w : Waits p m (length fs) es = subst (λ (n : ℕ). Waits p m n es) z (listened p fs m rs l).1 in
    let is = room_is p kept m (length fs) es f short w e q in
    let more = es ++ with_number (length fs) f ∷ [] in (
      λ big. (tell_all own (λ m₁. Unit) (refused 8) tt [] m (said f) [] (full p kept m (length fs) es f short w e q (is ∙ lt-ltb 8192 (held p more) big)).0).0,
      λ k end. by_room p kept m (length fs) es f short w e q (room_test p kept m (length fs) es f short w e q) refl k end,
    )
  where
    by_room :
        (p : Pattern) (kept : KeptAs (pattern_cells p) p) (m : List ℕ) (n : ℕ) (es : List Event) (f : Event) (short : n < most) (w : Waits p m n es) (e : an_event f ≡ true)
        (q : too_late p es f ≡ false) (b : Bool) → room_test p kept m n es f short w e q ≡ b → (k : ℕ) → (runs k own m (said f) []).end ≡ 18
        → 8192 < held p (es ++ with_number n f ∷ [])
    by_room p kept m n es f short w e q true r k end = (full p kept m n es f short w e q r).1
    by_room p kept m n es f short w e q false r k end =
        let t = ran_as own (λ m₁. Waits p m₁ (suc n) (es ++ with_number n f ∷ [])) waits (newly p es (es ++ with_number n f ∷ [])) m (said f) k tt (counts p kept m n es f short w e q r) (λ x. omega (arith, end, x)) in
        absurd (omega (arith, t.0, end))
