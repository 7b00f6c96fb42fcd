-- What needn't be held doesn't matter: rows that end no earlier than a mark are found among what is held under it.
use Rattle.std.proofs.Common.{◌≡◌, ℕ, ◌+◌, ◌≤◌, Bool, true, false, ◌&&◌, eqb, ltb, leb, List, [], ◌∷◌, ◌++◌, sym, refl, ap, ◌∙◌, arith}
use Rattle.std.proofs.lemmas.Bool.Decides.{nat_tests}
use Rattle.std.proofs.lemmas.Bool.{ltb-true, ltb-false, le-leb, lt-leb, and_parts, and_from}
use Rattle.timeline.specs.declared.events.Event.{Event}
use Rattle.timeline.specs.Lists.{or, any, every, those, none_of}
use Rattle.timeline.specs.Order.{before, sorted, first_of, last_of}
use Rattle.timeline.proofs.Lists.{clash, All, all_map, all_any, those_same, those_those}
use Rattle.timeline.proofs.Sorting.{isort}
use Rattle.timeline.proofs.Order.{those_sorted}
use Rattle.patterns.specs.Patterns.{Step, Pattern, fits_step, holds, named}
use Rattle.rows.specs.Rows.{between, rows, all_rows, told_before}
use Rattle.rows.specs.Known.{heard_to, is_held}
use Rattle.rows.specs.Laws.{HeldEnough}
use Rattle.rows.proofs.Picks.{or_right, eqb_turned}
use Rattle.rows.proofs.Reach.{Short, Reach, near, short_none, short_snoc, last_snoc, first_snoc, before_time}
use Rattle.rows.proofs.Same.{those_in_order, bad, goes_same, rows_same}

any_mono : {A : Type 0} (f g : A → Bool) → ((x : A) → f x ≡ true → g x ≡ true) → (xs : List A) → any f xs ≡ true → any g xs ≡ true
unfolding any
any_mono f g h [] e = e
any_mono f g h (x ∷ xs) e = let ih = any_mono f g h xs in let k = h x in grind arith

any_has : {A E : Type 0} (f : E → A → Bool) (xs : List A) → All (λ x. (e : E) → f e x ≡ true → any (f e) xs ≡ true) xs
unfolding any
any_has f [] = tt
any_has {E} f (x ∷ xs) = (
  (λ e h. rw h),
  all_map (λ y. (e : E) → f e y ≡ true → any (f e) xs ≡ true) (λ y. (e : E) → f e y ≡ true → or (f e x) (any (f e) xs) ≡ true)
      (λ y k e h. or_right (f e x) (any (f e) xs) (k e h)) xs (any_has f xs),
)

module _ (p : Pattern) (mark : ℕ) where
  abbrev ends_late : List Event → Bool
  ends_late r = leb mark (last_of r).time

  -- no row that ends late begins so
  abbrev dead : List Event → Bool
  dead es = ltb ((first_of es).time + p.within) mark

  abbrev of_step : Event → Step → Bool
  of_step e s = or (eqb s.kind e.kind) (any (λ n. eqb n.kind e.kind) s.never)

  -- the kinds of a step are named by the pattern
  abbrev Named : Step → Type 0
  Named s = (e : Event) → of_step e s ≡ true → named p e ≡ true

  lost : (es r : List Event) → none_of es ≡ false → dead es ≡ true → Reach p.within es r → ends_late r ≡ false
  lost es r n d q =
      let a : (first_of r).time ≡ (first_of es).time = ap (λ x. x.time) (q.start n) in
      let b = ltb-true ((first_of es).time + p.within) mark d in
      let c = q.is_short.short in
      lt-leb mark (last_of r).time (omega arith)

  module _ (es : List Event) (s : Step) (e : Event) (o : Named s) (f : Short p.within es) (d : dead (es ++ e ∷ []) ≡ false)
      (fits : fits_step es e s.kind s.tests ≡ true) (nr : near p.within es e ≡ true) where
    far : mark ≤ (first_of (es ++ e ∷ [])).time + p.within
    far = ltb-false ((first_of (es ++ e ∷ [])).time + p.within) mark d

    holds_next : is_held p mark e ≡ true
    holds_next =
        let a = (short_snoc p.within es e nr f).up in
        let b : (last_of (es ++ e ∷ [])).time ≡ e.time = ap (λ x. x.time) (last_snoc es e) in
        let c = far in
        let g : eqb s.kind e.kind ≡ true = eqb_turned s.kind e.kind ∙ (and_parts (eqb e.kind s.kind) (every (holds es e) s.tests) fits).0 in
        and_from (leb mark (e.time + p.within)) (named p e) (le-leb mark (e.time + p.within) (omega arith)) (o e (rw g))

    holds_bad : none_of es ≡ false → (x : Event) → is_held p mark x ≡ false → bad es e s x ≡ false
    holds_bad n x h = go (bad es e s x) refl
      where
        go : (b : Bool) → bad es e s x ≡ b → bad es e s x ≡ false
        go false q = q
        go true q =
            let a = and_parts (between (last_of es) e x) (any (λ n. fits_step es x n.kind n.tests) s.never) q in
            let b = before_time (last_of es) x (and_parts (before (last_of es) x) (before x e) a.0).0 in
            let c = f.up in
            let t : (first_of (es ++ e ∷ [])).time ≡ (first_of es).time = ap (λ y. y.time) (first_snoc es e n) in
            let u = far in
            let v : any (λ n. eqb n.kind x.kind) s.never ≡ true =
            any_mono (λ n. fits_step es x n.kind n.tests) (λ n. eqb n.kind x.kind)
            (λ n y. eqb_turned n.kind x.kind ∙ (and_parts (eqb x.kind n.kind) (every (holds es x) n.tests) y).0) s.never a.1 in
            clash (and_from (leb mark (x.time + p.within)) (named p x) (le-leb mark (x.time + p.within) (omega arith))
            (o x (or_right (eqb s.kind x.kind) (any (λ n. eqb n.kind x.kind) s.never) v))) h

  held_same : (all : List Event) → those ends_late (rows all p.within p.steps []) ≡ those ends_late (rows (those (is_held p mark) all) p.within p.steps [])
  held_same all =
      rows_same all p.within (is_held p mark) ends_late dead (λ e. Unit) Named lost
      (λ es s e o f m d. goes_same all p.within (is_held p mark) es s e
      (λ x y. (holds_next es s e o f d x y, λ n. all_any (λ z. is_held p mark z ≡ false → bad es e s z ≡ false) (holds_bad es s e o f d x y n) all)))
      (all_any (λ e. Unit) (λ e. tt) all) p.steps [] (any_has of_step p.steps) (short_none p.within)

  held_late : (es : List Event) → those ends_late (all_rows p es) ≡ those ends_late (all_rows p (those (is_held p mark) es))
  held_late es =
      those_in_order ends_late (rows (sorted es) p.within p.steps [])
      ∙ ap (isort told_before) (held_same (sorted es) ∙ ap (λ a. those ends_late (rows a p.within p.steps [])) (those_sorted (is_held p mark) es))
      ∙ sym (those_in_order ends_late (rows (sorted (those (is_held p mark) es)) p.within p.steps []))

  -- rows that pass a test which only rows pass that end no earlier than the mark are found among what is held
  pub held_rows : (q : List Event → Bool) → ((r : List Event) → q r ≡ (leb mark (last_of r).time && q r)) → (es : List Event)
      → those q (all_rows p es) ≡ those q (all_rows p (those (is_held p mark) es))
  held_rows q h es = one (all_rows p es) ∙ ap (those q) (held_late es) ∙ sym (one (all_rows p (those (is_held p mark) es)))
    where
      one : (rs : List (List Event)) → those q rs ≡ those q (those ends_late rs)
      one rs = those_same q (λ r. ends_late r && q r) rs (all_any (λ r. q r ≡ (ends_late r && q r)) h rs) ∙ sym (those_those q ends_late rs)

-- rows that end after a mark
pub held_after : (p : Pattern) (mark : ℕ) (es : List Event)
    → those (λ r. ltb mark (last_of r).time) (all_rows p es) ≡ those (λ r. ltb mark (last_of r).time) (all_rows p (those (is_held p mark) es))
held_after p mark es = held_rows p mark (λ r. ltb mark (last_of r).time) (λ r. after (last_of r).time) es
  where
    after : (t : ℕ) → ltb mark t ≡ (leb mark t && ltb mark t)
    after t = grind (arith, nat_tests)

pub held_enough_proof : HeldEnough
unfolding HeldEnough
held_enough_proof p es h l = held_after p (heard_to p es) es
