-- Two rows side by side, and a row's last event.
use Rattle.std.proofs.Common.{◌≡◌, ◌+◌, ◌<◌, ◌⊎◌, true, false, ltb, List, [], ◌∷◌, length, sym, refl, ◌∙◌, ap₂, inl, inr, arith}
use Rattle.std.proofs.lemmas.Bool.{cases_lt, lt-ltb, le-ltb}
use Rattle.timeline.specs.declared.events.Event.{Event}
use Rattle.timeline.specs.Order.{before}
use Rattle.rows.specs.Rows.{row_before}

-- where one of two rows is over, the shorter one is before
short : (xs ys : List Event) → (length xs ≡ 0 → 0 < length ys → row_before xs ys ≡ true) × (length ys ≡ 0 → row_before xs ys ≡ false)
unfolding row_before
short [] [] = (λ l h. absurd (omega arith), λ l. refl)
short [] (y ∷ ys) = (λ l h. refl, λ l. absurd (omega arith))
short (x ∷ xs) [] = (λ l h. absurd (omega arith), λ l. refl)
short (x ∷ xs) (y ∷ ys) = (λ l h. absurd (omega arith), λ l. absurd (omega arith))

-- two rows, and what is left of both, which is before as the whole is
module _ (a b xs ys : List Event) (p : row_before xs ys ≡ row_before a b) where
  module _ (x y : Event) (xs₁ ys₁ : List Event) (e : (xs ≡ x ∷ xs₁) × (ys ≡ y ∷ ys₁)) where
    heads : row_before (x ∷ xs₁) (y ∷ ys₁) ≡ row_before a b
    heads = ap₂ row_before (sym e.0) (sym e.1) ∙ p

    pub row_first : before x y ≡ true → row_before a b ≡ true
    unfolding row_before
    row_first t = sym heads ∙ rw t

    pub row_second : before x y ≡ false → before y x ≡ true → row_before a b ≡ false
    unfolding row_before
    row_second t u = sym heads ∙ rw (t, u)

    pub row_same : before x y ≡ false → before y x ≡ false → row_before xs₁ ys₁ ≡ row_before a b
    unfolding row_before
    row_same t u = sym (sym heads ∙ rw (t, u) refl)

  -- where nothing is left of one
  pub row_over : length a + length ys ≡ length b + length xs → (length xs ≡ 0) ⊎ (length ys ≡ 0) → ltb (length a) (length b) ≡ row_before a b
  row_over l z =
      let e = short xs ys in
      sym (sym p ∙ elim (cases_lt (length a) (length b)) [
        | inl h ↦ e.0 (elim z [ inl q ↦ q | inr q ↦ omega arith ]) (omega arith) ∙ sym (lt-ltb (length a) (length b) h)
        | inr h ↦ e.1 (elim z [ inl q ↦ omega arith | inr q ↦ q ]) ∙ sym (le-ltb (length a) (length b) h)
      ])
