-- What becomes known, from what is held.
use Rattle.std.proofs.Common.{◌≡◌, ℕ, ◌+◌, ◌-◌, ◌≤◌, Bool, true, not, ◌&&◌, ltb, leb, List, [], ◌∷◌, ◌++◌, length, drop, sym, refl, ap, ◌∙◌, not-suc-le-zero, arith}
use Rattle.std.proofs.lemmas.Bool.Decides.{nat_tests}
use Rattle.std.proofs.lemmas.Bool.{ltb-false, le-leb}
use Rattle.timeline.specs.declared.events.Event.{Event}
use Rattle.timeline.specs.Lists.{those}
use Rattle.timeline.specs.Order.{sorted, last_of, latest, each_heard}
use Rattle.timeline.proofs.Lists.{all_any, those_those, those_same, those_all, drop_front}
use Rattle.timeline.proofs.Sorting.{isort, ord_isort, those_split}
use Rattle.timeline.proofs.Order.{latest_snoc}
use Rattle.patterns.specs.Patterns.{Step, Pattern, named}
use Rattle.rows.specs.Rows.{rows, in_order, all_rows, told_before}
use Rattle.rows.specs.Known.{heard_to, known_rows, is_held}
use Rattle.rows.specs.Laws.{Grows}
use Rattle.rows.specs.Newly.{settled, fresh, NewlyHeld, EndsHeld, HeldLater, NeverStale}
use Rattle.rows.proofs.Order.{told_order, in_order_is, grows_proof}
use Rattle.rows.proofs.Enough.{held_rows, held_after}
use Rattle.rows.proofs.Known.{ended, ended_is, told_last}

-- a fresh row ends no earlier than the old mark
fresh_late : (old new : ℕ) (f e : Event) → old ≤ f.time → (leb e.time new && not (settled old f e)) ≡ (leb old e.time && (leb e.time new && not (settled old f e)))
fresh_late old new f e h = grind (arith, nat_tests)

newly_fresh : (w : ℕ) (ss : List Step) (es : List Event) (f : Event) (old new : ℕ) → 1 ≤ length ss → each_heard 0 (es ++ f ∷ []) ≡ true → old ≤ f.time → old ≤ new
    → drop (length (ended w ss old es)) (ended w ss new (es ++ f ∷ [])) ≡ those (fresh old new f) (in_order (rows (sorted (es ++ f ∷ [])) w ss []))
newly_fresh w [] es f old new o h l g = absurd (not-suc-le-zero o)
newly_fresh w (s ∷ ss) es f old new o h l g =
    ap (drop (length (ended w (s ∷ ss) old es))) (ended_is w s ss es f old new h l g)
    ∙ drop_front (ended w (s ∷ ss) old es) (those (fresh old new f) (in_order (rows (sorted (es ++ f ∷ [])) w (s ∷ ss) [])))

pub newly_held : NewlyHeld
unfolding NewlyHeld Grows
newly_held p es f o h l =
    let old = heard_to p es in
    let new = heard_to p (es ++ f ∷ []) in
    let t = ltb-false f.time old l in
    newly_fresh p.within p.steps es f old new o h t (grows_proof p es f)
    ∙ held_rows p old (fresh old new f) (λ r. fresh_late old new f (last_of r) t) (es ++ f ∷ [])

-- all rows are the known ones, then those that end above what is heard to
pub all_split : (p : Pattern) (es : List Event) → all_rows p es ≡ known_rows p es ++ those (λ r. ltb (heard_to p es) (last_of r).time) (all_rows p es)
all_split p es = rw in_order_is (sym (those_all (λ r. true) told (all_any (λ r. true ≡ true) (λ r. refl) told)) ∙ split ∙ ap (λ x. those is_known told ++ x) others)
  where
    mark : ℕ
    mark = heard_to p es

    found : List (List Event)
    found = rows (sorted es) p.within p.steps []

    told : List (List Event)
    told = isort told_before found

    is_known : List Event → Bool
    is_known r = leb (last_of r).time mark

    split : those (λ r. true) told ≡ those is_known told ++ those (λ r. true && not (is_known r)) told
    split =
        those_split told_before told_order (λ r. true) is_known told (ord_isort told_before told_order found)
        (λ x y q z. let t = told_last y x q in grind (arith, nat_tests)) (λ x z. refl)

    others : those (λ r. true && not (is_known r)) told ≡ those (λ r. ltb mark (last_of r).time) told
    others =
        those_same (λ r. true && not (is_known r)) (λ r. ltb mark (last_of r).time) told
        (all_any (λ r. (true && not (is_known r)) ≡ ltb mark (last_of r).time) (λ r. grind (arith, nat_tests)) told)

pub ends_held : EndsHeld
unfolding EndsHeld
ends_held p es =
    ap (drop (length (known_rows p es))) (all_split p es)
    ∙ drop_front (known_rows p es) (those (λ r. ltb (heard_to p es) (last_of r).time) (all_rows p es))
    ∙ held_after p (heard_to p es) es

pub held_later : HeldLater
unfolding HeldLater
held_later p old new es h =
    those_those (is_held p new) (is_held p old) es
    ∙ those_same (λ e. is_held p old e && is_held p new e) (is_held p new) es
    (all_any (λ e. (is_held p old e && is_held p new e) ≡ is_held p new e) (λ e. both e.time (named p e)) es)
  where
    both : (t : ℕ) (n : Bool) → ((leb old (t + p.within) && n) && (leb new (t + p.within) && n)) ≡ (leb new (t + p.within) && n)
    both t n = grind (arith, nat_tests)

pub never_stale : NeverStale
unfolding NeverStale
never_stale p es f l =
    let t = ltb-false f.time (heard_to p es) l in
    let k = latest_snoc es f in
    let u : latest (es ++ f ∷ []) - p.late ≤ f.time = grind (arith, nat_tests) in
    le-leb (heard_to p (es ++ f ∷ [])) (f.time + p.within) (omega arith)
