-- Rows in the order in which they are told are the rows of each last event, one after the other.
use Rattle.std.proofs.Common.{◌≡◌, Bool, true, false, not, ◌&&◌, List, [], ◌∷◌, ◌++◌, length, sym, refl, ap, ◌∙◌, ap₂, arith}
use mathlib.Core.Bool.{false≢true}
use Rattle.std.proofs.lemmas.Bool.Decides.{nat_tests}
use Rattle.timeline.specs.declared.events.Event.{Event}
use Rattle.timeline.specs.Lists.{any, those, flat, run}
use Rattle.timeline.specs.Order.{nth, before, last_of, sorted, each_heard}
use Rattle.timeline.proofs.Lists.{All, Pairs, all_map, all_any, all_both, all_those, those_all, those_same, those_those, pairs_those}
use Rattle.timeline.proofs.Each.{flat_each, flat_same}
use Rattle.timeline.proofs.Sorting.{isort, Ord, Strict, ins_front, all_isort, ord_isort, those_isort, those_split}
use Rattle.timeline.proofs.Order.{before_irr, sorted_strict}
use Rattle.patterns.specs.Patterns.{Step, Pattern}
use Rattle.rows.specs.Rows.{rows, row_before, told_before, in_order}
use Rattle.rows.specs.SearchLaws.{same, Ahead, Rises}
use Rattle.rows.proofs.Order.{told_order, in_order_is}
use Rattle.rows.proofs.Rows.{first, rows_pairs}
use Rattle.rows.proofs.Picks.{or_right}
use Rattle.rows.proofs.Positions.{each_nth}
use Rattle.rows.proofs.Reach.{some_cons, rows_last}
use Rattle.rows.proofs.Rising.{ahead_all}

pairs_with : {A : Type 0} (R S : A → A → Type 0) (Q : A → Type 0) → ((x y : A) → Q x → Q y → R x y → S x y) → (xs : List A) → All Q xs → Pairs R xs → Pairs S xs
pairs_with R S Q f [] q p = tt
pairs_with R S Q f (x ∷ xs) q p =
    (all_map (λ y. Q y × R x y) (S x) (λ y z. f x y q.0 z.0 z.1) xs (all_both Q (R x) xs q.1 p.0), pairs_with R S Q f xs q.1 p.1)

isort_same : {A : Type 0} (lt : A → A → Bool) (xs : List A) → Strict lt xs → isort lt xs ≡ xs
unfolding isort
isort_same lt [] a = refl
isort_same lt (x ∷ xs) a = rw (isort_same lt xs a.1) (ins_front lt x xs a.0)

alike : (e : Event) (r s : List Event) → same e (last_of r) ≡ true → same e (last_of s) ≡ true → row_before r s ≡ true → told_before r s ≡ true
alike e r s h k q = grind (arith, nat_tests)

-- rows of one last event are in order as they are
one_in_order : (e : Event) (rs : List (List Event)) → Pairs (λ r s. row_before r s ≡ true) rs → those (λ r. same e (last_of r)) (isort told_before rs) ≡ those (λ r. same e (last_of r)) rs
one_in_order e rs p =
    those_isort told_before told_order (λ r. same e (last_of r)) rs
    ∙ isort_same told_before (those (λ r. same e (last_of r)) rs)
    (pairs_with (λ r s. row_before r s ≡ true) (λ r s. told_before r s ≡ true) (λ r. Unit × (same e (last_of r) ≡ true)) (λ r s h k q. alike e r s h.1 k.1 q)
    (those (λ r. same e (last_of r)) rs) (all_those (λ r. Unit) (λ r. same e (last_of r)) rs (all_any (λ r. Unit) (λ r. tt) rs))
    (pairs_those (λ r s. row_before r s ≡ true) (λ r. same e (last_of r)) rs p))

-- an event is one of some
abbrev In : List Event → Event → Type 0
In h e = any (λ f. same f e) h ≡ true

in_more : (x e : Event) (h : List Event) → In h e → In (x ∷ h) e
unfolding any
in_more x e h k = or_right (same x e) (any (λ f. same f e) h) k

in_all : (h : List Event) → All (In h) h
unfolding any
in_all [] = tt
in_all (x ∷ h) = (rw (before_irr x) refl, all_map (In h) (In (x ∷ h)) (λ e k. in_more x e h k) h (in_all h))

-- what is the same as a later event is later
later : (x z : Event) (h : List Event) → Ahead x h → In h z → before x z ≡ true
unfolding any
later x z [] a k = absurd (false≢true k)
later x z (f ∷ h) a k = let ih = later x z h a.1 in let b = a.0 in let c = cross_same x f z b in grind arith
  where
    cross_same : (x f z : Event) → before x f ≡ true → same f z ≡ true → before x z ≡ true
    cross_same x f z b s = grind (arith, nat_tests)

-- rows in order, by their last events
by_last : (h : List Event) → Rises h → (rs : List (List Event)) → Ord told_before rs → All (λ r. In h (last_of r)) rs → rs ≡ flat (λ e. those (λ r. same e (last_of r)) rs) h
unfolding flat any
by_last [] rise [] o a = refl
by_last [] rise (r ∷ rs) o a = absurd (false≢true a.0)
by_last (x ∷ h) rise rs o a =
    sym (those_all (λ r. true) rs (all_any (λ r. true ≡ true) (λ r. refl) rs))
    ∙ those_split told_before told_order (λ r. true) z rs o (λ r s k m. down r s k m) (λ r m. refl)
    ∙ ap₂ (λ u v. u ++ v)
    (those_same z (λ r. same x (last_of r)) rs (all_map (λ r. In (x ∷ h) (last_of r)) (λ r. z r ≡ same x (last_of r)) (λ r k. here r k) rs a))
    (by_last h rise.1 ys (pairs_those (λ r s. told_before s r ≡ false) nz rs o)
    (all_map (λ r. In (x ∷ h) (last_of r) × (nz r ≡ true)) (λ r. In h (last_of r)) (λ r k. there r k.0 k.1) ys (all_those (λ r. In (x ∷ h) (last_of r)) nz rs a))
    ∙ flat_same (λ e. those (λ r. same e (last_of r)) ys) (λ e. those (λ r. same e (last_of r)) rs) h
    (all_map (λ e. before x e ≡ true) (λ e. those (λ r. same e (last_of r)) ys ≡ those (λ r. same e (last_of r)) rs)
    (λ e b.
    those_those (λ r. same e (last_of r)) nz rs
    ∙ those_same (λ r. nz r && same e (last_of r)) (λ r. same e (last_of r)) rs (all_any (λ r. (nz r && same e (last_of r)) ≡ same e (last_of r)) (λ r. behind e r b) rs))
    h (ahead_all x h rise.0)))
  where
    z : List Event → Bool
    z r = not (before x (last_of r))

    nz : List Event → Bool
    nz r = true && not (z r)

    ys : List (List Event)
    ys = those nz rs

    down : (r s : List Event) → told_before s r ≡ false → not (before x (last_of s)) ≡ true → not (before x (last_of r)) ≡ true
    down r s k m = grind (arith, nat_tests)

    here : (r : List Event) → In (x ∷ h) (last_of r) → not (before x (last_of r)) ≡ same x (last_of r)
    here r k = let l = later x (last_of r) h rise.0 in grind (arith, nat_tests)

    there : (r : List Event) → In (x ∷ h) (last_of r) → (true && not (not (before x (last_of r)))) ≡ true → In h (last_of r)
    there r k m = grind (arith, nat_tests)

    behind : (e : Event) (r : List Event) → before x e ≡ true → ((true && not (not (before x (last_of r)))) && same e (last_of r)) ≡ same e (last_of r)
    behind e r b = grind (arith, nat_tests)

rises_from : (fs : List Event) → Strict before fs → Rises fs
rises_from [] a = tt
rises_from (f ∷ fs) a = (go f fs a.0, rises_from fs a.1)
  where
    go : (e : Event) (fs : List Event) → All (λ f. before e f ≡ true) fs → Ahead e fs
    go e [] a = tt
    go e (f ∷ fs) a = (a.0, go e fs a.1)

pub sorted_rises : (es : List Event) → each_heard 0 es ≡ true → Rises (sorted es)
sorted_rises es h = rises_from (sorted es) (sorted_strict es h)

-- all rows, by the positions of their last events
pub all_by_last : (p : Pattern) (es : List Event) (s : Step) (ss : List Step) → each_heard 0 es ≡ true
    → in_order (rows (sorted es) p.within (s ∷ ss) [])
    ≡ flat (λ l. those (λ r. same (nth (sorted es) l) (last_of r)) (rows (sorted es) p.within (s ∷ ss) [])) (run 0 (length (sorted es)))
all_by_last p es s ss hd =
    let h = sorted es in
    let R = rows h p.within (s ∷ ss) [] in
    in_order_is R
    ∙ by_last h (sorted_rises es hd) (isort told_before R) (ord_isort told_before told_order R) (all_isort told_before (λ r. In h (last_of r)) R (rows_last (In h) h p.within (in_all h) (s ∷ ss) [] (some_cons s ss (In h (last_of [])))))
    ∙ flat_same (λ e. those (λ r. same e (last_of r)) (isort told_before R)) (λ e. those (λ r. same e (last_of r)) R) h
    (all_any (λ e. those (λ r. same e (last_of r)) (isort told_before R) ≡ those (λ r. same e (last_of r)) R)
    (λ e. one_in_order e R (rows_pairs (λ x y. before x y ≡ true) (λ r t. row_before r t ≡ true) first h p.within (sorted_strict es hd) (s ∷ ss) [])) h)
    ∙ ap (flat (λ e. those (λ r. same e (last_of r)) R)) (sym (each_nth h)) ∙ flat_each (λ e. those (λ r. same e (last_of r)) R) (nth h) (run 0 (length h))
