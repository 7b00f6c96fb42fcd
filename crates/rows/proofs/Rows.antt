-- Rows: that they begin as they should, that they are apart, and that they are told once.
use Rattle.std.proofs.Common.{◌≡◌, ℕ, true, List, [], ◌∷◌, ◌++◌, get_or, sym, ◌∙◌, subst, inl, inr, append_assoc, append-nil}
use Rattle.timeline.specs.declared.events.Event.{Event}
use Rattle.timeline.specs.Lists.{those}
use Rattle.timeline.specs.Order.{before, sorted, each_heard}
use Rattle.timeline.proofs.Lists.{clash, All, Pairs, all_map, all_flat, all_any, pairs_those, pairs_flat, pairs_at}
use Rattle.timeline.proofs.Sorting.{Apart, Strict, strict_isort}
use Rattle.timeline.proofs.Order.{sorted_apart}
use Rattle.patterns.specs.Patterns.{Step, Pattern}
use Rattle.rows.specs.Rows.{row_before, told_before, goes_on, rows, all_rows}
use Rattle.rows.specs.Laws.{ToldOnce}
use Rattle.rows.specs.Fitting.{NoRowTwice}
use Rattle.rows.proofs.Order.{told_order, in_order_is, told_apart, row_front, rising_from}

abbrev pub Begins : List Event → List Event → Type 0
Begins es r = (t : List Event) × (r ≡ es ++ t)

pub rows_begin : (all : List Event) (w : ℕ) (ss : List Step) (es : List Event) → All (Begins es) (rows all w ss es)
unfolding rows
rows_begin all w [] es = (([], sym (append-nil es)), tt)
rows_begin all w (s ∷ ss) es =
    all_flat (λ e. Unit) (Begins es) (λ e. rows all w ss (es ++ e ∷ []))
    (λ e _. all_map (Begins (es ++ e ∷ [])) (Begins es) (λ r b. (e ∷ b.0, b.1 ∙ append_assoc es (e ∷ []) b.0)) (rows all w ss (es ++ e ∷ [])) (rows_begin all w ss (es ++ e ∷ [])))
    (those (goes_on all w es s) all) (all_any (λ e. Unit) (λ e. tt) (those (goes_on all w es s) all))

pub first : (es : List Event) (x y : Event) → before x y ≡ true → (r s : List Event) → Begins (es ++ x ∷ []) r → Begins (es ++ y ∷ []) s → row_before r s ≡ true
unfolding row_before
first es x y q r s (t, u) (t₁, u₁) =
    rw (u, u₁) (rw (append_assoc es (x ∷ []) t, append_assoc es (y ∷ []) t₁) (row_front es (x ∷ t) (y ∷ t₁) ∙ rw q))

fork : (es : List Event) (x y : Event) → Apart before x y → (r s : List Event) → Begins (es ++ x ∷ []) r → Begins (es ++ y ∷ []) s → Apart told_before r s
fork es x y (inl q) r s b c = told_apart r s (first es x y q r s b c)
fork es x y (inr q) r s b c = turn (told_apart s r (first es y x q s r c b))
  where
    turn : Apart told_before s r → Apart told_before r s
    turn (inl k) = inr k
    turn (inr k) = inl k

-- what holds of two rows where they part holds of each row and each later one
module _ (S : Event → Event → Type 0) (R : List Event → List Event → Type 0)
    (part : (es : List Event) (x y : Event) → S x y → (r s : List Event) → Begins (es ++ x ∷ []) r → Begins (es ++ y ∷ []) s → R r s)
    (all : List Event) (w : ℕ) (p : Pairs S all) where
  pub rows_pairs : (ss : List Step) (es : List Event) → Pairs R (rows all w ss es)
  unfolding rows
  rows_pairs [] es = (tt, tt)
  rows_pairs (s ∷ ss) es =
      pairs_flat S R (λ e. rows all w ss (es ++ e ∷ [])) (λ e. rows_pairs ss (es ++ e ∷ []))
      (λ x y q. all_map (Begins (es ++ x ∷ [])) (λ r. All (R r) (rows all w ss (es ++ y ∷ [])))
      (λ r b. all_map (Begins (es ++ y ∷ [])) (R r) (λ t c. part es x y q r t b c) (rows all w ss (es ++ y ∷ [])) (rows_begin all w ss (es ++ y ∷ [])))
      (rows all w ss (es ++ x ∷ [])) (rows_begin all w ss (es ++ x ∷ [])))
      (those (goes_on all w es s) all) (pairs_those S (goes_on all w es s) all p)

-- the rows of a pattern stand in strict order
pub rows_strict : (p : Pattern) (es : List Event) → each_heard 0 es ≡ true → Strict told_before (all_rows p es)
rows_strict p es h =
    rw in_order_is (strict_isort told_before told_order (rows (sorted es) p.within p.steps [])
    (rows_pairs (Apart before) (Apart told_before) fork (sorted es) p.within (sorted_apart es h) p.steps []))

pub told_once_proof : ToldOnce
unfolding ToldOnce
told_once_proof p es h l = rising_from (all_rows p es) (rows_strict p es h)

pub no_row_twice : NoRowTwice
unfolding NoRowTwice
no_row_twice p es h i j l k e =
    let rs = all_rows p es in
    let b = pairs_at (λ r s. told_before r s ≡ true) rs [] (rows_strict p es h) i j l k in
    let c : told_before (get_or rs j []) (get_or rs j []) ≡ true = subst (λ r. told_before r (get_or rs j []) ≡ true) e b in
    clash c (told_order.asym (get_or rs j []) (get_or rs j []) c)
