-- What is forbidden between two positions, one position after the other.
use Rattle.std.proofs.Common.{◌≡◌, ℕ, zero, suc, ◌+◌, ◌-◌, ◌<◌, ◌≤◌, Bool, true, false, not, List, [], ◌∷◌, refl, ◌∙◌, true≢false, add-one, arith}
use Rattle.timeline.specs.declared.events.Event.{Event}
use Rattle.timeline.specs.Lists.{any, none_of, run}
use Rattle.timeline.specs.Order.{nth}
use Rattle.patterns.specs.Patterns.{Step, Never, fits_step}
use Rattle.rows.specs.Finding.{forbidden}
use Rattle.rows.proofs.Positions.{run_none, run_more, any_none}

module _ (h es : List Event) (s : Step) where
  -- whether one of the positions from i on and before b is forbidden
  abbrev pub broken : ℕ → ℕ → Bool
  broken i b = any (λ j. forbidden es s (nth h j)) (run i (b - i))

  pub broken_past : (i b : ℕ) → i < b → forbidden es s (nth h i) ≡ false → broken (i + 1) b ≡ broken i b
  unfolding any
  broken_past i b l e = rw (add-one i, run_more i b l, e) refl

  pub broken_here : (i b : ℕ) → i < b → forbidden es s (nth h i) ≡ true → broken i b ≡ true
  unfolding any
  broken_here i b l e = rw (run_more i b l, e) refl

  -- over so many positions that aren't forbidden
  broken_skip : (k i b : ℕ) → i + k ≤ b → ((j : ℕ) → j < i + k → i ≤ j → forbidden es s (nth h j) ≡ false) → broken (i + k) b ≡ broken i b
  broken_skip zero i b l f = let q : i + 0 ≡ i = omega arith in rw q refl
  broken_skip (suc k) i b l f =
      let q : i + suc k ≡ i + 1 + k = omega arith in
      rw q (broken_skip k (i + 1) b (omega arith) (λ j a c. f j (omega arith) (omega arith)) ∙ broken_past i b (omega arith) (f i (omega arith) (omega arith)))

  pub broken_to : (i j b : ℕ) → i ≤ j → j ≤ b → ((m : ℕ) → m < j → i ≤ m → forbidden es s (nth h m) ≡ false) → broken j b ≡ broken i b
  broken_to i j b l k f = let q : i + (j - i) ≡ j = omega arith in rw q at (broken_skip (j - i) i b (omega arith) (λ m a c. f m (omega arith) c))

  pub broken_over : (i b : ℕ) → b ≤ i → broken i b ≡ false
  unfolding any
  broken_over i b l = rw (run_none i b l) refl

  -- a step without nevers forbids nothing
  pub broken_none : (i b : ℕ) → not (none_of s.never) ≡ false → broken i b ≡ false
  unfolding any none_of
  broken_none i b e = go s.never e
    where
      go : (vs : List Never) → not (none_of vs) ≡ false → any (λ j. any (λ n. fits_step es (nth h j) n.kind n.tests) vs) (run i (b - i)) ≡ false
      go [] e = any_none (λ j. false) i (b - i) (λ j k l. refl)
      go (v ∷ vs) e = absurd (true≢false e)
