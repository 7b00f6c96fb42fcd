-- What is known of each event of two parts, known of the held events by their positions.
use Rattle.std.proofs.Common.{◌≡◌, ℕ, ◌+◌, ◌-◌, ◌<◌, ◌≤◌, List, [], length, get_or, subst, inl, inr, arith}
use Rattle.std.proofs.lemmas.Bool.{cases_lt}
use Rattle.timeline.specs.declared.events.Event.{Event}
use Rattle.timeline.specs.Order.{nth}
use Rattle.rows.specs.Parts.{event_of}

module _ (P : Event → Type 0) (held : List Event) where
  -- of so many of a part that begins at a position
  pub scanned : (part : List (List ℕ)) (from : ℕ) → ((i : ℕ) → i < length part → event_of (get_or part i []) ≡ nth held (from + i))
      → (r : ℕ) → r ≤ length part → ((i : ℕ) → i < r → P (event_of (get_or part i []))) → (j : ℕ) → j < from + r → from ≤ j → P (nth held j)
  scanned part from reads r l f j a b =
      let e : from + (j - from) ≡ j = omega arith in
      subst (λ (k : ℕ). P (nth held k)) e (subst P (reads (j - from) (omega arith)) (f (j - from) (omega arith)))

  -- of all in front, and of so many behind
  pub scanned_both : (front back : List (List ℕ)) (from : ℕ) → ((i : ℕ) → i < length front → event_of (get_or front i []) ≡ nth held (from + i))
      → ((i : ℕ) → i < length back → event_of (get_or back i []) ≡ nth held (from + length front + i))
      → ((i : ℕ) → i < length front → P (event_of (get_or front i [])))
      → (r : ℕ) → r ≤ length back → ((i : ℕ) → i < r → P (event_of (get_or back i []))) → (j : ℕ) → j < from + length front + r → from ≤ j → P (nth held j)
  scanned_both front back from x y f r l g j a b =
      elim (cases_lt j (from + length front)) [
        | inl k ↦ scanned front from x (length front) (omega arith) f j k b
        | inr k ↦ scanned back (from + length front) y r l g j a k
      ]
