-- The numbers of a row that was found, read off its events.
use Rattle.std.proofs.Common.{◌≡◌, ℕ, zero, suc, ◌<◌, ◌≤◌, List, [], ◌∷◌, ◌++◌, length, get_or, take, drop, sym, refl, ap, ◌∙◌, arith}
use Rattle.timeline.specs.declared.events.Event.{Event}
use Rattle.timeline.specs.Lists.{each}
use Rattle.timeline.specs.Order.{nothing, nth}
use Rattle.rows.specs.Held.{Along, six_of}
use Rattle.rows.specs.Known.{numbers}
use Rattle.rows.specs.Search.{chosen}
use Rattle.rows.specs.Finding.{row_of, six}
use Rattle.rows.proofs.Chosen.{chosen_forward}

module _ (h : List Event) (row : List Event) (a b c d e f : ℕ) where
  abbrev at : List ℕ
  at = a ∷ b ∷ c ∷ d ∷ e ∷ f ∷ []

  -- by cases on how many
  six_few : (k : ℕ) → 1 ≤ k → k ≤ 6 → ((j : ℕ) → j < k → (get_or row j nothing).heard ≡ (nth h (get_or at j 0)).heard)
      → six_of row k ≡ six (numbers (each (nth h) (drop 1 (take k at)) ++ each (nth h) (take 1 (take k at))))
  unfolding each
  six_few zero o s n = absurd (omega arith)
  six_few (suc zero) o s n = rw (n 0 (omega arith)) refl
  six_few (suc (suc zero)) o s n = rw (n 0 (omega arith), n 1 (omega arith)) refl
  six_few (suc (suc (suc zero))) o s n = rw (n 0 (omega arith), n 1 (omega arith), n 2 (omega arith)) refl
  six_few (suc (suc (suc (suc zero)))) o s n = rw (n 0 (omega arith), n 1 (omega arith), n 2 (omega arith), n 3 (omega arith)) refl
  six_few (suc (suc (suc (suc (suc zero))))) o s n = rw (n 0 (omega arith), n 1 (omega arith), n 2 (omega arith), n 3 (omega arith), n 4 (omega arith)) refl
  six_few (suc (suc (suc (suc (suc (suc zero)))))) o s n = rw (n 0 (omega arith), n 1 (omega arith), n 2 (omega arith), n 3 (omega arith), n 4 (omega arith), n 5 (omega arith)) refl
  six_few (suc (suc (suc (suc (suc (suc (suc k))))))) o s n = absurd (omega arith)

pub six_is : (h : List Event) (at : List ℕ) (row : List Event) (k : ℕ) → length at ≡ 6 → 1 ≤ k → k ≤ 6 → Along h at row k → six_of row k ≡ six (numbers (row_of h (chosen at k)))
six_is h (a ∷ b ∷ c ∷ d ∷ e ∷ f ∷ []) row k l o s w =
    six_few h row a b c d e f k o s (λ j q. ap (λ x. x.heard) (w.are j q))
    ∙ ap (λ xs. six (numbers (each (nth h) (drop 1 xs) ++ each (nth h) (take 1 xs)))) (sym (chosen_forward (a ∷ b ∷ c ∷ d ∷ e ∷ f ∷ []) k s))
six_is h [] row k l o s w = absurd (omega arith)
six_is h (a ∷ []) row k l o s w = absurd (omega arith)
six_is h (a ∷ b ∷ []) row k l o s w = absurd (omega arith)
six_is h (a ∷ b ∷ c ∷ []) row k l o s w = absurd (omega arith)
six_is h (a ∷ b ∷ c ∷ d ∷ []) row k l o s w = absurd (omega arith)
six_is h (a ∷ b ∷ c ∷ d ∷ e ∷ []) row k l o s w = absurd (omega arith)
six_is h (a ∷ b ∷ c ∷ d ∷ e ∷ f ∷ g ∷ xs) row k l o s w = absurd (omega arith)
