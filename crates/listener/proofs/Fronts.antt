-- Fronts of a list in order: how many events at its beginning pass a test that none passes behind one that fails.
use Rattle.std.proofs.Common.{◌≡◌, ℕ, zero, suc, ◌+◌, ◌-◌, ◌<◌, ◌≤◌, Bool, true, false, not, ltb, List, [], ◌∷◌, length, get_or, drop, Some, None, Option, sym, refl, ap, ◌∙◌, arith, le-ltb, lt-ltb}
use Rattle.std.specs.Option.{MatchOption, IfSome, is_some, unwrap_or}
use Rattle.std.specs.List.{prefix_len}
use Rattle.std.proofs.lemmas.List.{get_or-drop, length-drop}
use Rattle.std.proofs.lemmas.List.Sums.{prefix_len-le-length, prefix_len_is}
use Rattle.std.proofs.lemmas.Bool.Decides.{nat_tests}
use Rattle.timeline.specs.declared.events.Event.{Event}
use Rattle.timeline.specs.Lists.{those}
use Rattle.timeline.specs.Order.{before, nth, nothing}
use Rattle.timeline.proofs.Lists.{All, all_any, all_map, those_none, those_all, drop_front as drop_behind}
use Rattle.timeline.proofs.Sorting.{Ord, those_split}
use Rattle.timeline.proofs.Order.{before_order, nth_is}
use Rattle.listener.specs.Machine.{below_run}

-- a test that holds of all that is not behind one of which it holds
abbrev pub Lower : (Event → Bool) → Type 0
Lower z = (x y : Event) → before y x ≡ false → z y ≡ true → z x ≡ true

fail_behind : (z : Event → Bool) → Lower z → (e : Event) (es : List Event) → All (λ y. before y e ≡ false) es → z e ≡ false → All (λ y. z y ≡ false) es
fail_behind z low e es a f = all_map (λ y. before y e ≡ false) (λ y. z y ≡ false) (λ y b. let l = low e y b in grind arith) es a

none_behind : (z : Event → Bool) → Lower z → (e : Event) (es : List Event) → All (λ y. before y e ≡ false) es → z e ≡ false → those z es ≡ []
none_behind z low e es a f = those_none z es (fail_behind z low e es a f)

-- those that pass are the first ones
pub front_passes : (z : Event → Bool) → Lower z → (es : List Event) → Ord before es → (i : ℕ) → i < length (those z es) → z (nth es i) ≡ true
unfolding those nth
front_passes z low [] o i l = absurd (omega arith)
front_passes z low (e ∷ es) o zero l =
    let n = none_behind z low e es o.0 in
    let m = λ (q : z e ≡ false). ap length (n q) in
    grind (arith, nat_tests)
front_passes z low (e ∷ es) o (suc i) l =
    let ih = front_passes z low es o.1 i in
    let n = none_behind z low e es o.0 in
    let m = λ (q : z e ≡ false). ap length (n q) in
    grind (arith, nat_tests)

pub back_fails :
    (z : Event → Bool) → Lower z → (es : List Event) → Ord before es → (i : ℕ) → length (those z es) ≤ i → i < length es → z (nth es i) ≡ false
unfolding those nth
back_fails z low [] o i k l = absurd (omega arith)
back_fails z low (e ∷ es) o zero k l = grind (arith, nat_tests)
back_fails z low (e ∷ es) o (suc i) k l =
    let ih = back_fails z low es o.1 i in
    let n = none_behind z low e es o.0 in
    let m = λ (q : z e ≡ false). ap length (n q) in
    grind (arith, nat_tests)

-- times below a bound are such a test
pub time_lower : (b : ℕ) → Lower (λ e. ltb e.time b)
time_lower b x y q h = grind (arith, nat_tests)

pub below_run_is : (b : ℕ) (es : List Event) → Ord before es → below_run b es ≡ length (those (λ e. ltb e.time b) es)
unfolding below_run those
below_run_is b [] o = refl
below_run_is b (e ∷ es) o =
    let ih = below_run_is b es o.1 in
    let n = none_behind (λ e. ltb e.time b) (time_lower b) e es o.0 in
    grind arith

-- what is behind the front
pub drop_front : (z : Event → Bool) → Lower z → (es : List Event) → Ord before es → drop (length (those z es)) es ≡ those (λ e. not (z e)) es
drop_front z low es o =
    let split = sym (those_all (λ x. true) es (all_any (λ x. true ≡ true) (λ x. refl) es)) ∙ those_split before before_order (λ x. true) z es o low (λ x h. refl) in
    ap (drop (length (those z es))) split ∙ drop_behind (those z es) (those (λ x. not (z x)) es)

-- a run goes on behind a part of it
pub below_run_drop : (b k : ℕ) (es : List Event) → k ≤ below_run b es → below_run b es ≡ k + below_run b (drop k es)
unfolding below_run
below_run_drop b zero es l = omega arith
below_run_drop b (suc k) [] l = absurd (omega arith)
below_run_drop b (suc k) (e ∷ es) l = let ih = below_run_drop b k es in grind arith

pub below_run_grows : (a b : ℕ) (es : List Event) → a ≤ b → below_run a es ≤ below_run b es
unfolding below_run
below_run_grows a b [] l = omega arith
below_run_grows a b (e ∷ es) l = let ih = below_run_grows a b es l in grind (arith, nat_tests)

-- a run is what std calls a prefix
run_is : (b : ℕ) (es : List Event) → below_run b es ≡ prefix_len (λ e. ltb e.time b) es
unfolding below_run
run_is b [] = refl
run_is b (e ∷ es) = let ih = run_is b es in grind (arith, nat_tests)

pub below_run_most : (b : ℕ) (es : List Event) → below_run b es ≤ length es
below_run_most b es = omega (arith, run_is b es, prefix_len-le-length (λ e. ltb e.time b) es)

-- what a look along a run finds: the first event that is not below, or the end
pub run_found :
    (b from n len : ℕ) (es : List Event) (r : Option ℕ) → length es ≡ n → n ≡ len → from ≤ len
    → MatchOption r ((k : ℕ) → from ≤ k → k < len → k < n → (nth es k).time < b)
    (λ i. (from ≤ i) × (i < len) × (i < n → b ≤ (nth es i).time) × ((k : ℕ) → from ≤ k → k < i → k < n → (nth es k).time < b))
    → unwrap_or r len ≡ from + below_run b (drop from es)
run_found b from n len es r long same behind found = go r found
  where
    at : (k : ℕ) → ltb (get_or (drop from es) k nothing).time b ≡ ltb (nth es (from + k)).time b
    at k = ap (λ (e : Event). ltb e.time b) (get_or-drop from es k nothing ∙ sym (nth_is es (from + k)))

    to : (i : ℕ) → from ≤ i → i ≤ length es → ((k : ℕ) → from ≤ k → k < i → (nth es k).time < b) → (i < length es → b ≤ (nth es i).time) → i ≡ from + below_run b (drop from es)
    to i l short below stop =
        let whole : from + (i - from) ≡ i = omega arith in
        let left = length-drop from es in
        let is =
        prefix_len_is (λ e. ltb e.time b) (drop from es) (i - from) nothing (omega (arith, left)) (λ k u. at k ∙ lt-ltb _ b (below (from + k) (omega arith) (omega arith)))
        (λ u. at (i - from) ∙ ap (λ (k : ℕ). ltb (nth es k).time b) whole ∙ le-ltb _ b (stop (omega (arith, left, u)))) in
        omega (arith, run_is b (drop from es), is)

    go : (r : Option ℕ)
        → MatchOption r ((k : ℕ) → from ≤ k → k < len → k < n → (nth es k).time < b)
        (λ i. (from ≤ i) × (i < len) × (i < n → b ≤ (nth es i).time) × ((k : ℕ) → from ≤ k → k < i → k < n → (nth es k).time < b))
        → unwrap_or r len ≡ from + below_run b (drop from es)
    go None below = to len behind (omega (arith, long, same)) (λ k u v. below k u v (omega (arith, same))) (λ u. absurd (omega (arith, long, same, u)))
    go (Some i) at =
        to i at.0 (omega (arith, long, same, at.1)) (λ k u v. at.3 k u v (omega (arith, same, at.1))) (λ u. at.2 (omega (arith, same, at.1)))

-- a test of what stands at a held place
pub below_held :
    (b : ℕ) (e : Event) (o : Option Event) (r : Bool) (What : Event → Type 0) → is_some o ≡ true → IfSome o (λ x. x ≡ e) → MatchOption o (r ≡ false) What
    → ((x : Event) → What x → r ≡ ltb x.time b) → r ≡ ltb e.time b
below_held b e None r What some is what tells = grind arith
below_held b e (Some x) r What some is what tells = tells x what ∙ ap (λ (y : Event). ltb y.time b) is
