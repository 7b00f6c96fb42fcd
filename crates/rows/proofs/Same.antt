-- Which rows are found among a part of the events: the same, where what is left out does not matter.
use Rattle.std.proofs.Common.{◌≡◌, ℕ, Bool, true, false, not, ◌&&◌, List, [], ◌∷◌, ◌++◌, sym, refl, ap, ◌∙◌, arith}
use Rattle.timeline.specs.declared.events.Event.{Event}
use Rattle.timeline.specs.Lists.{pick, any, those, none_of}
use Rattle.timeline.specs.Order.{last_of}
use Rattle.timeline.proofs.Lists.{All, all_map, those_none, those_flat, flat_those, any_those}
use Rattle.timeline.proofs.Sorting.{isort, those_isort}
use Rattle.patterns.specs.Patterns.{Step, fits_step}
use Rattle.rows.specs.Rows.{between, clear, goes_on, rows, in_order, told_before}
use Rattle.rows.proofs.Order.{told_order, in_order_is}
use Rattle.rows.proofs.Reach.{Short, Reach, near, near_of, some_snoc, short_snoc, rows_reach}

-- to leave rows out before or after they are put in order is the same
pub those_in_order : (P : List Event → Bool) (rs : List (List Event)) → those P (in_order rs) ≡ isort told_before (those P rs)
those_in_order P rs = ap (those P) (in_order_is rs) ∙ those_isort told_before told_order P rs

-- an event that a never of the step forbids between the last of a row so far and the next
abbrev pub bad : List Event → Event → Step → Event → Bool
bad es e s f = between (last_of es) e f && any (λ n. fits_step es f n.kind n.tests) s.never

both_go : (a n k c d : Bool) → (a ≡ true → n ≡ true → (k ≡ true) × (c ≡ d)) → (a && (n && c)) ≡ (k && (a && (n && d)))
both_go a n k c d h = grind arith

-- an event may come next among a part, if it is in that part and all that is forbidden is
pub goes_same : (all : List Event) (w : ℕ) (k : Event → Bool) (es : List Event) (s : Step) (e : Event)
    → (fits_step es e s.kind s.tests ≡ true → near w es e ≡ true → (k e ≡ true) × (none_of es ≡ false → All (λ f. k f ≡ false → bad es e s f ≡ false) all))
    → goes_on all w es s e ≡ (k e && goes_on (those k all) w es s e)
goes_same all w k es s e h =
    both_go (fits_step es e s.kind s.tests) (near w es e) (k e) (clear all es e s) (clear (those k all) es e s)
    (λ x y. ((h x y).0, go (none_of es) refl (h x y).1))
  where
    go : (b : Bool) → none_of es ≡ b → (none_of es ≡ false → All (λ f. k f ≡ false → bad es e s f ≡ false) all) → clear all es e s ≡ clear (those k all) es e s
    go true q m = rw q
    go false q m = ap (λ b. pick (none_of es) true (not b)) (any_those (bad es e s) k all (m q))

gone : {A : Type 0} (b c d : Bool) (x y : List A) → (b ≡ true → x ≡ []) → (d ≡ true → y ≡ []) → pick b x [] ≡ pick c (pick d y []) []
gone b c d x y h k = grind arith

kept : {A : Type 0} (b c d : Bool) (x y : List A) → b ≡ (c && d) → (b ≡ true → x ≡ y) → pick b x [] ≡ pick c (pick d y []) []
kept b c d x y h k = grind arith

-- P: which rows are wanted. dead: how a row may begin that none of them begins with. Where no event is dead, the part k has what is needed
module _ (all : List Event) (w : ℕ) (k : Event → Bool) (P dead : List Event → Bool) (M : Event → Type 0) (S : Step → Type 0)
    (lost : (es r : List Event) → none_of es ≡ false → dead es ≡ true → Reach w es r → P r ≡ false)
    (found : (es : List Event) (s : Step) (e : Event) → S s → Short w es → M e → dead (es ++ e ∷ []) ≡ false → goes_on all w es s e ≡ (k e && goes_on (those k all) w es s e))
    (mem : All M all) where
  none_left : (any : List Event) (ss : List Step) (es : List Event) (s : Step) (e : Event) → Short w es → dead (es ++ e ∷ []) ≡ true → goes_on any w es s e ≡ true
      → those P (rows any w ss (es ++ e ∷ [])) ≡ []
  none_left any ss es s e f d h =
      those_none P (rows any w ss (es ++ e ∷ []))
      (all_map (Reach w (es ++ e ∷ [])) (λ r. P r ≡ false) (λ r q. lost (es ++ e ∷ []) r (some_snoc es e) d q) (rows any w ss (es ++ e ∷ []))
      (rows_reach any w ss (es ++ e ∷ []) (short_snoc w es e (near_of any w es s e h) f)))

  pub rows_same : (ss : List Step) (es : List Event) → All S ss → Short w es → those P (rows all w ss es) ≡ those P (rows (those k all) w ss es)
  unfolding rows
  rows_same [] es a f = refl
  rows_same (s ∷ ss) es a f =
      those_flat P (λ e. rows all w ss (es ++ e ∷ [])) (those (goes_on all w es s) all)
      ∙ flat_those (λ e. those P (rows all w ss (es ++ e ∷ []))) (λ e. those P (rows (those k all) w ss (es ++ e ∷ []))) (goes_on all w es s)
      (goes_on (those k all) w es s) k all
      (all_map M (λ e. Same e) (λ e m. same e m (dead (es ++ e ∷ [])) refl
      (λ h. rows_same ss (es ++ e ∷ []) a.1 (short_snoc w es e (near_of all w es s e h) f))) all mem)
      ∙ sym (those_flat P (λ e. rows (those k all) w ss (es ++ e ∷ [])) (those (goes_on (those k all) w es s) (those k all)))
    where
      Same : Event → Type 0
      Same e =
          pick (goes_on all w es s e) (those P (rows all w ss (es ++ e ∷ []))) [] ≡
          pick (k e) (pick (goes_on (those k all) w es s e) (those P (rows (those k all) w ss (es ++ e ∷ []))) []) []

      same : (e : Event) → M e → (d : Bool) → dead (es ++ e ∷ []) ≡ d
          → (goes_on all w es s e ≡ true → those P (rows all w ss (es ++ e ∷ [])) ≡ those P (rows (those k all) w ss (es ++ e ∷ []))) → Same e
      same e m true q ih =
          gone (goes_on all w es s e) (k e) (goes_on (those k all) w es s e) (those P (rows all w ss (es ++ e ∷ []))) (those P (rows (those k all) w ss (es ++ e ∷ [])))
          (λ h. none_left all ss es s e f q h) (λ h. none_left (those k all) ss es s e f q h)
      same e m false q ih =
          kept (goes_on all w es s e) (k e) (goes_on (those k all) w es s e) (those P (rows all w ss (es ++ e ∷ []))) (those P (rows (those k all) w ss (es ++ e ∷ [])))
          (found es s e a.0 f m q) ih
