-- What is held, from one event to the next: the list that the ring has, as an event comes and as what is stale is forgotten.
use Rattle.std.proofs.Common.{◌≡◌, ℕ, suc, ◌+◌, ◌-◌, ◌<◌, ◌≤◌, Bool, true, false, not, ◌&&◌, ltb, leb, List, [], ◌∷◌, ◌++◌, length, drop, sym, refl, ap, ◌∙◌, arith}
use Rattle.std.proofs.lemmas.List.{append-nil, length-drop}
use Rattle.std.proofs.lemmas.Bool.{ltb-true, ltb-false, and_parts}
use Rattle.std.proofs.lemmas.Bool.Decides.{nat_tests}
use Rattle.timeline.specs.declared.events.Event.{Event}
use Rattle.timeline.specs.Lists.{pick, those}
use Rattle.timeline.specs.Order.{put, sorted, each_heard}
use Rattle.timeline.proofs.Lists.{All, all_any, all_map, all_append, all_those, all_part, those_append, those_same}
use Rattle.timeline.proofs.Order.{latest_grows, sorted_snoc, length_put, length_sorted, sorted_ord, those_sorted, all_sorted}
use Rattle.patterns.specs.Patterns.{Pattern, named}
use Rattle.rows.specs.Known.{heard_to, too_late, held, is_held, with_number}
use Rattle.rows.specs.Newly.{settled, HeldLater, NeverStale}
use Rattle.rows.proofs.Newly.{held_later, never_stale}
use Rattle.listener.specs.Machine.{below_run}
use Rattle.listener.specs.Holding.{held_list}
use Rattle.listener.proofs.Fronts.{time_lower, below_run_is, drop_front, below_run_drop, below_run_most}

-- numbered as they came: rising, and all below a number
abbrev pub Numbered : ℕ → List Event → Type 0
Numbered n es = (each_heard 0 es ≡ true) × All (λ e. e.heard < n) es

heard_snoc : (k n : ℕ) (es : List Event) (f : Event) → k ≤ n → f.heard ≡ n → each_heard k es ≡ true → All (λ e. e.heard < n) es → each_heard k (es ++ f ∷ []) ≡ true
unfolding each_heard
heard_snoc k n [] f l e h a = grind (arith, nat_tests)
heard_snoc k n (x ∷ es) f l e h a =
    let p = and_parts (ltb k (suc x.heard)) (each_heard (suc x.heard) es) h in
    let ih = heard_snoc (suc x.heard) n es f a.0 e p.1 a.1 in
    rw p.0 ih

pub numbered_later : (n : ℕ) (es : List Event) → Numbered n es → Numbered (suc n) es
numbered_later n es (h, a) = (h, all_map (λ e. e.heard < n) (λ e. e.heard < suc n) (λ e l. omega arith) es a)

pub numbered_more : (n : ℕ) (es : List Event) (f : Event) → Numbered n es → Numbered (suc n) (es ++ with_number n f ∷ [])
numbered_more n es f (h, a) = (
  heard_snoc 0 n es (with_number n f) (omega arith) refl h a,
  all_append (λ e. e.heard < suc n) es (with_number n f ∷ []) (numbered_later n es (h, a)).1 (omega arith, tt),
)

heard_less : (j k : ℕ) (es : List Event) → j ≤ k → each_heard k es ≡ true → each_heard j es ≡ true
unfolding each_heard
heard_less j k [] l h = refl
heard_less j k (e ∷ es) l h = grind (arith, nat_tests)

-- some of the events are numbered as they came too
pub heard_those : (z : Event → Bool) (k : ℕ) (es : List Event) → each_heard k es ≡ true → each_heard k (those z es) ≡ true
unfolding each_heard those
heard_those z k [] h = refl
heard_those z k (e ∷ es) h =
    let q = and_parts (ltb k (suc e.heard)) (each_heard (suc e.heard) es) h in
    let ih = heard_those z (suc e.heard) es q.1 in
    let less = heard_less k (suc e.heard) (those z es) (omega (arith, ltb-true k (suc e.heard) q.0)) ih in
    grind arith

those_fewer : (y z : Event → Bool) → ((e : Event) → y e ≡ true → z e ≡ true) → (es : List Event) → length (those y es) ≤ length (those z es)
unfolding those
those_fewer y z h [] = omega arith
those_fewer y z h (e ∷ es) = let ih = those_fewer y z h es in let k = h e in grind (arith, nat_tests)

-- an event that counts: the list with it, and what is stale and what is known then
module _ (p : Pattern) (n : ℕ) (es : List Event) (f : Event) (num : Numbered n es) (in_time : too_late p es f ≡ false) where
  abbrev pub came : Event
  came = with_number n f

  abbrev pub new : List Event
  new = es ++ came ∷ []

  abbrev mark : ℕ
  mark = heard_to p es

  abbrev mark₁ : ℕ
  mark₁ = heard_to p new

  -- what was held before the event, and the event if it has to be held
  unfoldable pub with_came : List Event
  with_came = sorted (those (is_held p mark) new)

  mark_below : mark ≤ f.time
  mark_below = ltb-false f.time mark in_time

  pub mark_grows : mark ≤ mark₁
  mark_grows = let h = latest_grows es came in omega arith

  held_came : is_held p mark came ≡ named p came
  held_came = let l = mark_below in let t : leb mark (f.time + p.within) ≡ true = grind (arith, nat_tests) in rw t

  pub with_came_is : with_came ≡ pick (named p came) (put came (held_list p es)) (held_list p es)
  unfolding with_came held_list those
  with_came_is = ap sorted (those_append (is_held p mark) es (came ∷ [])) ∙ rw held_came (go (named p came))
    where
      xs : List Event
      xs = those (is_held p mark) es

      go : (b : Bool) → sorted (xs ++ pick b (came ∷ []) []) ≡ pick b (put came (sorted xs)) (sorted xs)
      go true = sorted_snoc xs came (all_part (λ e. e.heard < n) (is_held p mark) es num.1)
      go false = ap sorted (append-nil xs)

  -- as many pass a test that the event fails
  count_more : (z : Event → Bool) → z came ≡ false → length (those z with_came) ≡ length (those z (held_list p es))
  unfolding with_came held_list those
  count_more z fails =
      ap length (those_sorted z (those (is_held p mark) new)) ∙ length_sorted (those z (those (is_held p mark) new))
      ∙ ap (λ (ys : List Event). length (those z ys)) (those_append (is_held p mark) es (came ∷ []))
      ∙ ap length (those_append z (those (is_held p mark) es) (pick (is_held p mark came) (came ∷ []) []))
      ∙ ap (λ (ys : List Event). length (those z (those (is_held p mark) es) ++ ys)) (none (is_held p mark came))
      ∙ ap length (append-nil (those z (those (is_held p mark) es)))
      ∙ sym (ap length (those_sorted z (those (is_held p mark) es)) ∙ length_sorted (those z (those (is_held p mark) es)))
    where
      none : (b : Bool) → those z (pick b (came ∷ []) []) ≡ []
      none true = rw fails
      none false = refl

  -- before this time an event is stale
  abbrev pub stale_bound : ℕ
  stale_bound = mark₁ - p.within

  abbrev is_stale : Event → Bool
  is_stale e = ltb e.time stale_bound

  came_fresh : is_stale came ≡ false
  unfolding NeverStale
  came_fresh = let h = never_stale p es came in_time in grind (arith, nat_tests)

  pub stale_is : below_run stale_bound (held_list p es) ≡ length (those is_stale with_came)
  unfolding held_list
  stale_is = below_run_is stale_bound (held_list p es) (sorted_ord (those (is_held p mark) es)) ∙ sym (count_more is_stale came_fresh)

  all_named : All (λ e. named p e ≡ true) with_came
  unfolding with_came
  all_named =
      all_sorted (λ e. named p e ≡ true) (those (is_held p mark) new)
      (all_map (λ e. Unit × (is_held p mark e ≡ true)) (λ e. named p e ≡ true) (λ e h. (and_parts (leb mark (e.time + p.within)) (named p e) h.1).1) (those (is_held p mark) new)
      (all_those (λ e. Unit) (is_held p mark) new (all_any (λ e. Unit) (λ e. tt) new)))

  -- what is left when the stale ones are forgotten
  pub forgotten : drop (below_run stale_bound (held_list p es)) with_came ≡ held_list p new
  unfolding with_came held_list HeldLater
  forgotten =
      ap (λ (k : ℕ). drop k with_came) stale_is
      ∙ drop_front is_stale (time_lower stale_bound) with_came (sorted_ord (those (is_held p mark) new))
      ∙ those_same (λ e. not (is_stale e)) (is_held p mark₁) with_came
      (all_map (λ e. named p e ≡ true) (λ e. not (is_stale e) ≡ is_held p mark₁ e) (λ e h. rw h (let w : ℕ = p.within in let m : ℕ = mark₁ in held_by e m w)) with_came all_named)
      ∙ those_sorted (is_held p mark₁) (those (is_held p mark) new)
      ∙ ap sorted (held_later p mark mark₁ new mark_grows)
    where
      held_by : (e : Event) (m w : ℕ) → not (ltb e.time (m - w)) ≡ (leb m (e.time + w) && true)
      held_by e m w = grind (arith, nat_tests)

  pub length_with : length with_came ≡ length (held_list p es) + pick (named p came) 1 0
  unfolding held_list
  length_with = ap length with_came_is ∙ go (named p came)
    where
      go : (b : Bool) → length (pick b (put came (held_list p es)) (held_list p es)) ≡ length (held_list p es) + pick b 1 0
      go true = length_put came (held_list p es) ∙ omega arith
      go false = omega arith

  pub held_is : length (held_list p es) - below_run stale_bound (held_list p es) + pick (named p came) 1 0 ≡ held p new
  unfolding held_list
  held_is =
      let counted : held p new ≡ length with_came - below_run stale_bound (held_list p es) =
      sym (ap length forgotten ∙ length_sorted (those (is_held p mark₁) new)) ∙ length-drop (below_run stale_bound (held_list p es)) with_came in
      omega (arith, counted, length_with, below_run_most stale_bound (held_list p es))

  abbrev known : ℕ
  known = below_run (mark + 1) (held_list p es)

  -- the known ones are settled as the event comes
  pub known_is : known ≡ length (those (settled mark came) with_came)
  unfolding held_list
  known_is =
      below_run_is (mark + 1) (held_list p es) (sorted_ord (those (is_held p mark) es))
      ∙ ap length
      (those_same (λ e. ltb e.time (mark + 1)) (settled mark came) (held_list p es)
      (all_map (λ e. e.heard < n) (λ e. ltb e.time (mark + 1) ≡ settled mark came e) (λ e l. early e mark l mark_below) (held_list p es)
      (all_sorted (λ e. e.heard < n) (those (is_held p mark) es) (all_part (λ e. e.heard < n) (is_held p mark) es num.1))))
      ∙ sym (count_more (settled mark came) (unsettled mark))
    where
      early : (e : Event) (m : ℕ) → e.heard < n → m ≤ f.time → ltb e.time (m + 1) ≡ settled m came e
      early e m l k = grind (arith, nat_tests)

      unsettled : (m : ℕ) → settled m came came ≡ false
      unsettled m = grind (arith, nat_tests)

  pub upto_is : known + below_run (mark₁ + 1) (drop known with_came) ≡ length (those (λ e. ltb e.time (mark₁ + 1)) with_came)
  unfolding with_came
  upto_is =
      let most : below_run (mark₁ + 1) with_came ≡ length (those (λ e. ltb e.time (mark₁ + 1)) with_came) =
      below_run_is (mark₁ + 1) with_came (sorted_ord (those (is_held p mark) new)) in
      let fewer : length (those (settled mark came) with_came) ≤ length (those (λ e. ltb e.time (mark₁ + 1)) with_came) =
      those_fewer (settled mark came) (λ e. ltb e.time (mark₁ + 1)) (λ e q. later e mark mark₁ mark_grows q) with_came in
      sym (below_run_drop (mark₁ + 1) known with_came (omega (arith, known_is, most, fewer))) ∙ most
    where
      later : (e : Event) (a b : ℕ) → a ≤ b → settled a came e ≡ true → ltb e.time (b + 1) ≡ true
      later e a b l q = grind (arith, nat_tests)
