-- Rows of events with other numbers: the same, where the numbers keep which of two events of one time was heard of first.
use Rattle.std.proofs.Common.{◌≡◌, ℕ, zero, suc, ◌+◌, ◌-◌, ◌<◌, Bool, true, false, not, ◌&&◌, eqb, leb, List, [], ◌∷◌, ◌++◌, length, sym, refl, ap, ◌∙◌, ap₂, true≢false, arith}
use Rattle.std.proofs.lemmas.Bool.Decides.{nat_tests}
use Rattle.std.proofs.lemmas.List.{length-map}
use Rattle.timeline.specs.declared.events.Event.{Event}
use Rattle.timeline.specs.Lists.{pick, or, any, those, each, none_of, flat}
use Rattle.timeline.specs.Order.{nothing, before, sorted, nth, first_of, last_of}
use Rattle.timeline.proofs.Lists.{All, all_map, all_any, all_append, all_flat, all_part, those_same, any_same, every_same}
use Rattle.timeline.proofs.Each.{each_append, those_each, flat_same, flat_each, each_flat, any_each}
use Rattle.timeline.proofs.Sorting.{isort_each}
use Rattle.timeline.proofs.Order.{sorted_is, all_sorted, nth_is, all_nth}
use Rattle.patterns.specs.Patterns.{Test, Step, field, other_side, holds, fits_step}
use Rattle.rows.specs.Rows.{between, goes_on, rows, row_before, told_before, put_row, in_order}
use Rattle.rows.specs.Finding.{forbidden}
use Rattle.rows.specs.Fitting.{Among}
use Rattle.rows.specs.Sorted.{renumbered, Renumbered}
use Rattle.rows.proofs.Order.{in_order_is}
use Rattle.rows.proofs.Reach.{some_snoc}
use Rattle.rows.proofs.Eaches.{each_is, at_each}
use Rattle.rows.proofs.Among.{all_among}

module _ (number : ℕ → ℕ) where
  abbrev re : Event → Event
  re = renumbered number

  length_re : (es : List Event) → length (each re es) ≡ length es
  length_re es = ap length (each_is re es) ∙ length-map es re

  -- at a place that there is
  nth_re : (es : List Event) (k : ℕ) → k < length es → nth (each re es) k ≡ re (nth es k)
  nth_re es k h = at_each re es k nothing h ∙ ap re (sym (nth_is es k))

  -- and at any, but for the number
  field_re : (es : List Event) (k what : ℕ) → field (nth (each re es) k) what ≡ field (nth es k) what
  unfolding each nth
  field_re [] k what = refl
  field_re (e ∷ es) zero what = refl
  field_re (e ∷ es) (suc k) what = field_re es k what

  fits_re : (es : List Event) (e : Event) (k : ℕ) (ts : List Test) → fits_step (each re es) (re e) k ts ≡ fits_step es e k ts
  unfolding other_side
  fits_re es e k ts = ap (λ (b : Bool). eqb e.kind k && b) (every_same (holds (each re es) (re e)) (holds es e) ts (all_any (λ t. holds (each re es) (re e) t ≡ holds es e t) holds_re ts))
    where
      side : (is : List ℕ) (n : ℕ) → other_side (each re es) is n ≡ other_side es is n
      side [] n = refl
      side (i ∷ is) n = field_re es i n

      holds_re : (t : Test) → holds (each re es) (re e) t ≡ holds es e t
      holds_re t = rw (side t.step t.other)

  some_re : (es : List Event) → none_of (each re es) ≡ none_of es
  unfolding none_of each
  some_re [] = refl
  some_re (e ∷ es) = refl

  length_some : (es : List Event) → none_of es ≡ false → length es - 1 < length es
  unfolding none_of
  length_some [] h = absurd (true≢false h)
  length_some (e ∷ es) h = omega arith

  first_re : (es : List Event) → none_of es ≡ false → first_of (each re es) ≡ re (first_of es)
  first_re es h = nth_re es 0 (omega (arith, length_some es h))

  last_re : (es : List Event) → none_of es ≡ false → last_of (each re es) ≡ re (last_of es)
  last_re es h = rw (length_re es) (nth_re es (length es - 1) (length_some es h))

  -- the events concerned, among which the order is kept
  module _ (K : Event → Type 0) (keeps : (a b : Event) → K a → K b → before (re a) (re b) ≡ before a b) where
    forbidden_re : (es : List Event) (s : Step) (x : Event) → forbidden (each re es) s (re x) ≡ forbidden es s x
    forbidden_re es s x =
        any_same (λ n. fits_step (each re es) (re x) n.kind n.tests) (λ n. fits_step es x n.kind n.tests) s.never
        (all_any (λ n. fits_step (each re es) (re x) n.kind n.tests ≡ fits_step es x n.kind n.tests) (λ n. fits_re es x n.kind n.tests) s.never)

    way_re : (all es : List Event) (s : Step) (l e : Event) → All K all → K l → K e
        → any (λ x. between (re l) (re e) x && forbidden (each re es) s x) (each re all) ≡ any (λ x. between l e x && forbidden es s x) all
    way_re all es s l e a kl ke =
        any_each (λ x. between (re l) (re e) x && forbidden (each re es) s x) re (λ x. between l e x && forbidden es s x) all
        (all_map K (λ x. (between (re l) (re e) (re x) && forbidden (each re es) s (re x)) ≡ (between l e x && forbidden es s x))
        (λ x kx. ap₂ ◌&&◌ (ap₂ ◌&&◌ (keeps l x kl kx) (keeps x e kx ke)) (forbidden_re es s x)) all a)

    goes_re : (all : List Event) (w : ℕ) (es : List Event) (s : Step) (e : Event) → All K all → All K es → K e
        → goes_on (each re all) w (each re es) s (re e) ≡ goes_on all w es s e
    goes_re all w es s e a b k = go (none_of es) refl
      where
        -- by whether there is one before it, by the last of these, and by the first
        goes : List Event → List Event → Event → Bool → Event → Event → Bool
        goes all es e none l f =
            fits_step es e s.kind s.tests
            && (or none (before l e && leb e.time (f.time + w)) && pick none true (not (any (λ x. between l e x && forbidden es s x) all)))

        go : (none : Bool) → none_of es ≡ none → goes_on (each re all) w (each re es) s (re e) ≡ goes_on all w es s e
        go true q = rw (some_re es, q) (ap (λ (x : Bool). x && true) (fits_re es e s.kind s.tests))
        go false q =
            let kl = all_nth K es b (length es - 1) (length_some es q) in
            ap (λ (x : Bool). goes (each re all) (each re es) (re e) x (last_of (each re es)) (first_of (each re es))) (some_re es ∙ q)
            ∙ ap (λ (x : Event). goes (each re all) (each re es) (re e) false x (first_of (each re es))) (last_re es q)
            ∙ ap (λ (x : Event). goes (each re all) (each re es) (re e) false (re (last_of es)) x) (first_re es q)
            ∙ ap₂ ◌&&◌ (fits_re es e s.kind s.tests) (ap₂ ◌&&◌ (ap (λ (x : Bool). x && leb e.time ((first_of es).time + w)) (keeps (last_of es) e kl k)) (ap not (way_re all es s (last_of es) e a kl k)))
            ∙ ap (λ (x : Bool). goes all es e x (last_of es) (first_of es)) (sym q)

    rows_re : (all : List Event) (w : ℕ) → All K all → (ss : List Step) (es : List Event) → All K es → rows (each re all) w ss (each re es) ≡ each (each re) (rows all w ss es)
    unfolding rows each
    rows_re all w a [] es b = refl
    rows_re all w a (s ∷ ss) es b =
        ap (flat next) (those_each goes_now re all)
        ∙ flat_each next re (those (λ e. goes_now (re e)) all)
        ∙ ap (flat (λ e. next (re e))) (those_same (λ e. goes_now (re e)) goes_then all (all_map K (λ e. goes_now (re e) ≡ goes_then e) (λ e k. goes_re all w es s e a b k) all a))
        ∙ flat_same (λ e. next (re e)) (λ e. each (each re) (rows all w ss (es ++ e ∷ []))) (those goes_then all)
        (all_map K (λ e. next (re e) ≡ each (each re) (rows all w ss (es ++ e ∷ [])))
        (λ e k. ap (rows (each re all) w ss) (sym (each_append re es (e ∷ []))) ∙ rows_re all w a ss (es ++ e ∷ []) (all_append K es (e ∷ []) b (k, tt)))
        (those goes_then all) (all_part K goes_then all a))
        ∙ sym (each_flat (each re) (λ e. rows all w ss (es ++ e ∷ [])) (those goes_then all))
      where
        next : Event → List (List Event)
        next e = rows (each re all) w ss (each re es ++ e ∷ [])

        goes_now : Event → Bool
        goes_now e = goes_on (each re all) w (each re es) s e

        goes_then : Event → Bool
        goes_then e = goes_on all w es s e

    row_re : (x y : List Event) → All K x → All K y → row_before (each re x) (each re y) ≡ row_before x y
    unfolding row_before each
    row_re [] [] a b = refl
    row_re [] (f ∷ y) a b = refl
    row_re (e ∷ x) [] a b = refl
    row_re (e ∷ x) (f ∷ y) a b = let ih = row_re x y a.1 b.1 in rw (keeps e f a.0 b.0, keeps f e b.0 a.0, ih)

    -- a row of events concerned, with one at least
    abbrev Made : List Event → Type 0
    Made r = All K r × (none_of r ≡ false)

    told_re : (x y : List Event) → Made x → Made y → told_before (each re x) (each re y) ≡ told_before x y
    unfolding row_before each
    told_re x y a b =
        ap₂ (λ (l m : Event). row_before (l ∷ each re x) (m ∷ each re y)) (last_re x a.1) (last_re y b.1)
        ∙ row_re (last_of x ∷ x) (last_of y ∷ y) (all_nth K x a.0 (length x - 1) (length_some x a.1), a.0) (all_nth K y b.0 (length y - 1) (length_some y b.1), b.0)

    made_all : (all : List Event) (w : ℕ) → All K all → (ss : List Step) (es : List Event) → Made es → All Made (rows all w ss es)
    unfolding rows
    made_all all w a [] es m = (m, tt)
    made_all all w a (s ∷ ss) es m =
        all_flat K Made (λ e. rows all w ss (es ++ e ∷ [])) (λ e k. made_all all w a ss (es ++ e ∷ []) (all_append K es (e ∷ []) m.0 (k, tt), some_snoc es e))
        (those (goes_on all w es s) all) (all_part K (goes_on all w es s) all a)

    made_first : (all : List Event) (w : ℕ) → All K all → (s : Step) (ss : List Step) → All Made (rows all w (s ∷ ss) [])
    unfolding rows
    made_first all w a s ss =
        all_flat K Made (λ e. rows all w ss (e ∷ [])) (λ e k. made_all all w a ss (e ∷ []) ((k, tt), some_snoc [] e))
        (those (goes_on all w [] s) all) (all_part K (goes_on all w [] s) all a)

    sorted_re : (es : List Event) → All K es → sorted (each re es) ≡ each re (sorted es)
    sorted_re es a = sorted_is (each re es) ∙ isort_each before before re K keeps es a ∙ ap (each re) (sym (sorted_is es))

    in_order_re : (rs : List (List Event)) → All Made rs → in_order (each (each re) rs) ≡ each (each re) (in_order rs)
    in_order_re rs m = in_order_is (each (each re) rs) ∙ isort_each told_before told_before (each re) Made told_re rs m ∙ ap (each (each re)) (sym (in_order_is rs))

    all_rows_re : (w : ℕ) (ss : List Step) (es : List Event) → All K es
        → in_order (rows (sorted (each re es)) w ss []) ≡ each (each re) (in_order (rows (sorted es) w ss []))
    unfolding each rows in_order put_row
    all_rows_re w [] es a = refl
    all_rows_re w (s ∷ ss) es a =
        let k = all_sorted K es a in
        ap (λ (x : List Event). in_order (rows x w (s ∷ ss) [])) (sorted_re es a)
        ∙ ap in_order (rows_re (sorted es) w k (s ∷ ss) [] tt)
        ∙ in_order_re (rows (sorted es) w (s ∷ ss) []) (made_first (sorted es) w k s ss)

pub renumbered_rows : Renumbered
unfolding Renumbered
renumbered_rows p es number h = all_rows_re number (λ e. Among e es) (λ a b k l. keeps a b (h a b k l) (h b a l k)) p.within p.steps es (all_among es)
  where
    keeps : (a b : Event) → (a.time ≡ b.time → a.heard < b.heard → number a.heard < number b.heard)
        → (b.time ≡ a.time → b.heard < a.heard → number b.heard < number a.heard) → before (renumbered number a) (renumbered number b) ≡ before a b
    keeps a b h k = grind (arith, nat_tests)
