-- What the search finds of several last events: rows of the definition, in the order in which they are told.
use Rattle.std.proofs.Common.{◌≡◌, ℕ, suc, ◌-◌, ◌≤◌, Bool, true, false, ◌&&◌, List, [], ◌∷◌, length, sym, refl, ap, ◌∙◌, arith}
use Rattle.timeline.specs.declared.events.Event.{Event}
use Rattle.timeline.specs.Lists.{pick, those, flat, each, run}
use Rattle.timeline.specs.Order.{nth, last_of, sorted, each_heard}
use Rattle.timeline.proofs.Lists.{all_any, those_none, those_same, those_flat, those_those}
use Rattle.timeline.proofs.Each.{each_flat}
use Rattle.timeline.proofs.Order.{length_sorted}
use Rattle.patterns.specs.Patterns.{Step, Pattern}
use Rattle.rows.specs.Rows.{rows, in_order, all_rows}
use Rattle.rows.specs.Known.{numbers}
use Rattle.rows.specs.Search.{paths, from, rest, chosen}
use Rattle.rows.specs.Finding.{row_ok, row_lo, row_hi, space, row_of, to_come}
use Rattle.rows.specs.SearchLaws.{same, Rises, Just, begin_at, RowsOfOne, RowsInOrder, RestIs}
use Rattle.rows.proofs.Positions.{flat_pick, flat_same, flat_narrow}
use Rattle.rows.proofs.OneLast.{rows_of_one_proof}
use Rattle.rows.proofs.ByLast.{sorted_rises, all_by_last}

-- the definition's rows that end with the event at a position
abbrev ending : List Event → Pattern → ℕ → List (List Event)
ending h p l = those (λ r. same (nth h l) (last_of r)) (rows h p.within p.steps [])

-- what the search finds from one last event on
found_from : (h : List Event) → Rises h → (p : Pattern) → 1 ≤ length p.steps → (a upto : ℕ) → upto ≤ length h
    → each (row_of h) (from (space h p upto) (length p.steps - 1) [] a) ≡ flat (ending h p) (run a (upto - a))
unfolding from row_hi RowsOfOne
found_from h r p s a upto k =
    let more = λ (i : ℕ). paths (space h p upto) (length p.steps - 1) (i ∷ []) in
    let ok = row_ok h p.within p.steps [] in
    ap (each (row_of h)) (flat_pick more ok (run a (upto - a))) ∙ each_flat (row_of h) (λ i. pick (ok i) (more i) []) (run a (upto - a))
    ∙ flat_same (λ i. each (row_of h) (pick (ok i) (more i) [])) (ending h p) a (upto - a) (λ i x y. rows_of_one_proof p h i upto r s (omega arith))

-- all rows, by the positions of their last events
all_ending : (p : Pattern) (es : List Event) → each_heard 0 es ≡ true → 1 ≤ length p.steps → all_rows p es ≡ flat (ending (sorted es) p) (run 0 (length (sorted es)))
all_ending p es hd k = go p.steps k
  where
    go : (ss : List Step) → 1 ≤ length ss → in_order (rows (sorted es) p.within ss [])
        ≡ flat (λ l. those (λ r. same (nth (sorted es) l) (last_of r)) (rows (sorted es) p.within ss [])) (run 0 (length (sorted es)))
    go [] k = absurd (omega arith)
    go (s ∷ ss) k = all_by_last p es s ss hd

pub rows_in_order_proof : RowsInOrder
unfolding RowsInOrder paths from row_lo row_hi
rows_in_order_proof p es hd k =
    let len = length_sorted es in
    let n : length p.steps ≡ suc (length p.steps - 1) = omega arith in
    let z : length es - 0 ≡ length (sorted es) = omega arith in
    ap (λ m. each (row_of (sorted es)) (paths (space (sorted es) p (length es)) m [])) n
    ∙ found_from (sorted es) (sorted_rises es hd) p k 0 (length es) (omega arith)
    ∙ ap (λ m. flat (ending (sorted es) p) (run 0 m)) z ∙ sym (all_ending p es hd k)

-- of rows that end alike all pass or none
those_alike : (q : Event → Bool) (e : Event) → ((f : Event) → same e f ≡ true → q e ≡ q f) → (rs : List (List Event))
    → those (λ r. q (last_of r)) (those (λ r. same e (last_of r)) rs) ≡ pick (q e) (those (λ r. same e (last_of r)) rs) []
those_alike q e alike rs =
    those_those (λ r. q (last_of r)) (λ r. same e (last_of r)) rs
    ∙ those_same (λ r. same e (last_of r) && q (last_of r)) (λ r. same e (last_of r) && q e) rs
    (all_any (λ r. (same e (last_of r) && q (last_of r)) ≡ (same e (last_of r) && q e)) (λ r. let z = alike (last_of r) in grind arith) rs)
    ∙ fix (q e)
  where
    fix : (b : Bool) → those (λ r. same e (last_of r) && b) rs ≡ pick b (those (λ r. same e (last_of r)) rs) []
    fix true = those_same (λ r. same e (last_of r) && true) (λ r. same e (last_of r)) rs (all_any (λ r. (same e (last_of r) && true) ≡ same e (last_of r)) (λ r. grind arith) rs)
    fix false = those_none (λ r. same e (last_of r) && false) rs (all_any (λ r. (same e (last_of r) && false) ≡ false) (λ r. grind arith) rs)

pub rest_is_proof : RestIs
unfolding RestIs to_come rest chosen
rest_is_proof p es q a b hd k l m just =
    let h = sorted es in
    let piece = λ (i : ℕ). those_alike q (nth h i) (just.alike (nth h i)) (rows h p.within p.steps []) in
    let n : length p.steps - 1 - 0 ≡ length p.steps - 1 = omega arith in
    ap (λ x. each (row_of h) (from (space h p b) x [] a)) n ∙ found_from h (sorted_rises es hd) p k a b m
    ∙ sym (ap (those (λ r. q (last_of r))) (all_ending p es hd k) ∙ those_flat (λ r. q (last_of r)) (ending h p) (run 0 (length h))
    ∙ flat_narrow (λ i. those (λ r. q (last_of r)) (ending h p i)) (ending h p) a b (length h) l m
    (λ i x y. piece i ∙ rw (just.lower i y) refl)
    (λ i x y. piece i ∙ rw (just.mid i x y) refl)
    (λ i x y. piece i ∙ rw (just.upper i x y) refl))

each_each : {A B C : Type 0} (g : B → C) (f : A → B) (xs : List A) → each g (each f xs) ≡ each (λ x. g (f x)) xs
unfolding each
each_each g f [] = refl
each_each g f (x ∷ xs) = ap (λ r. g (f x) ∷ r) (each_each g f xs)

-- the same by the events' numbers, as rows are told
pub rest_told : (p : Pattern) (es : List Event) (q : Event → Bool) (a b : ℕ) → each_heard 0 es ≡ true → 1 ≤ length p.steps → a ≤ b → b ≤ length (sorted es) → Just (sorted es) q a b
    → each (λ path. numbers (row_of (sorted es) path)) (to_come (sorted es) p b (begin_at a)) ≡ each numbers (those (λ r. q (last_of r)) (all_rows p es))
unfolding RestIs
rest_told p es q a b hd k l m just = sym (each_each numbers (row_of (sorted es)) (to_come (sorted es) p b (begin_at a))) ∙ ap (each numbers) (rest_is_proof p es q a b hd k l m just)
