-- What is known stays known: the rows that are known as an event comes, and those known before.
use Rattle.std.proofs.Common.{◌≡◌, ℕ, ◌<◌, ◌≤◌, Bool, true, false, not, ◌&&◌, ltb, leb, ◌⊎◌, List, [], ◌∷◌, ◌++◌, sym, refl, ap, ◌∙◌, subst, ap₂, inl, inr, append-nil, arith}
use lib.Dec.{leb-zero}
use Rattle.std.proofs.lemmas.Bool.Decides.{nat_tests}
use Rattle.std.proofs.lemmas.Bool.{ltb-false, leb-true, le-leb, lt-ltb, not-true, not-false, and_parts, and_left, and_right, le-ltb}
use Rattle.timeline.specs.declared.events.Event.{Event}
use Rattle.timeline.specs.Lists.{any, those, none_of}
use Rattle.timeline.specs.Order.{before, nth, sorted, last_of, each_heard}
use Rattle.timeline.proofs.Lists.{clash, All, all_map, all_any, all_append, those_all, those_none, those_append, those_same, pairs_cross}
use Rattle.timeline.proofs.Sorting.{isort, all_isort, ord_isort, those_isort, those_split}
use Rattle.timeline.proofs.Order.{before_irr, heard_pairs, those_sorted, all_sorted}
use Rattle.patterns.specs.Patterns.{Step, fits_step}
use Rattle.rows.specs.Rows.{between, goes_on, rows, put_row, in_order, told_before}
use Rattle.rows.specs.Known.{heard_to}
use Rattle.rows.specs.Laws.{KnownStays, Grows}
use Rattle.rows.specs.Newly.{settled, fresh}
use Rattle.rows.proofs.Order.{told_order, in_order_is, grows_proof}
use Rattle.rows.proofs.Reach.{Short, Reach, some_cons, rows_last, short_none, last_snoc, before_down}
use Rattle.rows.proofs.Same.{those_in_order, bad, goes_same, rows_same}

settled_down : (mark : ℕ) (f a b : Event) → before a b ≡ false → settled mark f a ≡ true → settled mark f b ≡ true
settled_down mark f a b h k = grind (arith, nat_tests)

settled_all : (mark : ℕ) (f a : Event) → mark ≤ f.time → a.heard < f.heard → leb a.time mark ≡ settled mark f a
settled_all mark f a h k = grind (arith, nat_tests)

pub told_last : (y x : List Event) → told_before y x ≡ false → before (last_of y) (last_of x) ≡ false
told_last y x h = grind arith

-- rows that end not above a mark
abbrev pub ended : ℕ → List Step → ℕ → List Event → List (List Event)
ended w ss mark es = those (λ r. leb (last_of r).time mark) (in_order (rows (sorted es) w ss []))

-- f comes: rows that end settled are those without f, since f is before none of their events
module _ (w : ℕ) (mark : ℕ) (f : Event) where
  abbrev earlier : Event → Bool
  earlier e = ltb e.heard f.heard

  abbrev M : Event → Type 0
  M e = (earlier e ≡ true) ⊎ (before e f ≡ false)

  abbrev ends_settled : List Event → Bool
  ends_settled r = settled mark f (last_of r)

  abbrev dead : List Event → Bool
  dead r = not (ends_settled r)

  lost : (es r : List Event) → none_of es ≡ false → dead es ≡ true → Reach w es r → ends_settled r ≡ false
  lost es r n d q = go (ends_settled r) refl
    where
      go : (b : Bool) → ends_settled r ≡ b → ends_settled r ≡ false
      go false e = e
      go true e = clash (settled_down mark f (last_of r) (last_of es) (q.behind n) e) (not-true (ends_settled es) d)

  found : (all : List Event) → All M all → (es : List Event) (s : Step) (e : Event) → Unit {0} → Short w es → M e → dead (es ++ e ∷ []) ≡ false
      → goes_on all w es s e ≡ (earlier e && goes_on (those earlier all) w es s e)
  found all ms es s e o fi m d =
      goes_same all w earlier es s e (λ x y. (is_earlier m, λ n. all_map M (λ z. earlier z ≡ false → bad es e s z ≡ false) (λ z mz. not_bad z mz) all ms))
    where
      is_settled : settled mark f e ≡ true
      is_settled = subst (λ x. settled mark f x ≡ true) (last_snoc es e) (not-false (ends_settled (es ++ e ∷ [])) d)

      is_before : before e f ≡ true
      is_before = (and_parts (leb e.time mark) (before e f) is_settled).1

      is_earlier : M e → earlier e ≡ true
      is_earlier (inl h) = h
      is_earlier (inr h) = clash is_before h

      not_bad : (z : Event) → M z → earlier z ≡ false → bad es e s z ≡ false
      not_bad z (inl h) q = clash h q
      not_bad z (inr h) q =
          let a = before_down e f z is_before h in
          and_left (between (last_of es) e z) (any (λ n. fits_step es z n.kind n.tests) s.never) (and_right (before (last_of es) z) (before z e) a)

  settled_same : (all : List Event) → All M all → (ss : List Step) → those ends_settled (rows all w ss []) ≡ those ends_settled (rows (those earlier all) w ss [])
  settled_same all ms ss = rows_same all w earlier ends_settled dead M (λ s. Unit) lost (found all ms) ms ss [] (all_any (λ s. Unit) (λ s. tt) ss) (short_none w)

  module _ (es : List Event) (h : All (λ e. e.heard < f.heard) es) where
    all_M : All M (sorted (es ++ f ∷ []))
    all_M =
        all_sorted M (es ++ f ∷ [])
        (all_append M es (f ∷ []) (all_map (λ e. e.heard < f.heard) M (λ e l. inl (lt-ltb e.heard f.heard l)) es h) (inr (before_irr f), tt))

    without : those earlier (sorted (es ++ f ∷ [])) ≡ sorted es
    without =
        those_sorted earlier (es ++ f ∷ [])
        ∙ ap sorted (those_append earlier es (f ∷ [])
        ∙ (ap₂ ◌++◌ (those_all earlier es (all_map (λ e. e.heard < f.heard) (λ e. earlier e ≡ true) (λ e l. lt-ltb e.heard f.heard l) es h))
        (those_none earlier (f ∷ []) (le-ltb f.heard f.heard (omega arith), tt))
        ∙ append-nil es))

-- what is known now is what was known before, then what is fresh
pub ended_is : (w : ℕ) (s : Step) (ss : List Step) (es : List Event) (f : Event) (old new : ℕ) → each_heard 0 (es ++ f ∷ []) ≡ true → old ≤ f.time → old ≤ new
    → ended w (s ∷ ss) new (es ++ f ∷ []) ≡ ended w (s ∷ ss) old es ++ those (fresh old new f) (in_order (rows (sorted (es ++ f ∷ [])) w (s ∷ ss) []))
ended_is w s ss es f old new h l g = split ∙ ap₂ ◌++◌ (sym same) (ap (those (fresh old new f)) (sym (in_order_is found_now)))
  where
    was_settled : List Event → Bool
    was_settled r = settled old f (last_of r)

    heard_before : All (λ e. e.heard < f.heard) es
    heard_before =
        all_map (λ a. All (λ b. a.heard < b.heard) (f ∷ [])) (λ a. a.heard < f.heard) (λ a k. k.0) es
        (pairs_cross (λ a b. a.heard < b.heard) es (f ∷ []) (heard_pairs 0 (es ++ f ∷ []) h))

    found_now : List (List Event)
    found_now = rows (sorted (es ++ f ∷ [])) w (s ∷ ss) []

    found_before : List (List Event)
    found_before = rows (sorted es) w (s ∷ ss) []

    split : ended w (s ∷ ss) new (es ++ f ∷ []) ≡ those was_settled (isort told_before found_now) ++ those (fresh old new f) (isort told_before found_now)
    split =
        ap (those (λ r. leb (last_of r).time new)) (in_order_is found_now)
        ∙ those_split told_before told_order (λ r. leb (last_of r).time new) was_settled (isort told_before found_now)
        (ord_isort told_before told_order found_now)
        (λ x y q z. settled_down old f (last_of y) (last_of x) (told_last y x q) z)
        (λ x z. let t = leb-true (last_of x).time old (and_parts (leb (last_of x).time old) (before (last_of x) f) z).0 in le-leb (last_of x).time new (omega arith))

    ends_settled_all : All (λ r. leb (last_of r).time old ≡ was_settled r) found_before
    ends_settled_all =
        all_map (λ r. (last_of r).heard < f.heard) (λ r. leb (last_of r).time old ≡ was_settled r) (λ r q. settled_all old f (last_of r) l q) found_before
        (rows_last (λ e. e.heard < f.heard) (sorted es) w (all_sorted (λ e. e.heard < f.heard) es heard_before) (s ∷ ss) []
        (some_cons s ss ((last_of []).heard < f.heard)))

    same : ended w (s ∷ ss) old es ≡ those was_settled (isort told_before found_now)
    same =
        those_same (λ r. leb (last_of r).time old) was_settled (in_order found_before)
        (rw in_order_is (all_isort told_before (λ r. leb (last_of r).time old ≡ was_settled r) found_before ends_settled_all))
        ∙ those_in_order was_settled found_before
        ∙ ap (isort told_before) (ap (λ a. those was_settled (rows a w (s ∷ ss) [])) (sym (without w old f es heard_before))
        ∙ sym (settled_same w old f (sorted (es ++ f ∷ [])) (all_M w old f es heard_before) (s ∷ ss)))
        ∙ sym (those_isort told_before told_order was_settled found_now)

-- of no steps there is one row, of no events
ended_none : (w mark : ℕ) (es : List Event) → ended w [] mark es ≡ [] ∷ []
unfolding rows in_order put_row those nth
ended_none w mark es = rw (leb-zero mark)

ended_stays : (w : ℕ) (ss : List Step) (es : List Event) (f : Event) (old new : ℕ) → each_heard 0 (es ++ f ∷ []) ≡ true → old ≤ f.time → old ≤ new
    → (more : List (List Event)) × (ended w ss new (es ++ f ∷ []) ≡ ended w ss old es ++ more)
ended_stays w [] es f old new h l g = ([], ended_none w new (es ++ f ∷ []) ∙ sym (append-nil (ended w [] old es) ∙ ended_none w old es))
ended_stays w (s ∷ ss) es f old new h l g = (_, ended_is w s ss es f old new h l g)

pub known_stays_proof : KnownStays
unfolding KnownStays Grows
known_stays_proof p es f h l =
    ended_stays p.within p.steps es f (heard_to p es) (heard_to p (es ++ f ∷ [])) h (ltb-false f.time (heard_to p es) l) (grows_proof p es f)
