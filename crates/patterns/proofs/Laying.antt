-- The words of parts, one behind the other, and zeros behind them.
use Rattle.std.proofs.Common.{◌≡◌, ℕ, zero, suc, ◌-◌, ◌*◌, ◌≤◌, List, [], ◌∷◌, ◌++◌, length, length-take-le, take, drop, replicate, append_assoc, flat_map, sym, refl, ap, ◌∙◌, add_comm, mul-suc, arith, length-append}
use lib.ListN.{length-replicate}
use Rattle.std.proofs.lemmas.List.{drop-replicate}
use Rattle.std.proofs.lemmas.Grind.{flat_map-append}
use Rattle.patterns.specs.Kept.{padded}

-- so many of the slots for the most there can be
pub slots : (w most k : ℕ) → k ≤ most → length (take k (replicate most (replicate {A = ℕ} w 0))) ≡ k
slots w most k l = let n = length-replicate {A = List ℕ} most (replicate {A = ℕ} w 0) in length-take-le k (replicate most (replicate {A = ℕ} w 0)) (omega (arith, n))

module _ {A : Type 0} (w : ℕ) (f : A → List ℕ) where
  pub padded_long : ((x : A) → length (f x) ≡ w) → (n : ℕ) (xs : List A) → length (padded w f n xs) ≡ w * n
  unfolding padded
  padded_long h zero xs = omega arith
  padded_long h (suc n) [] = length-append (replicate w 0) (padded w f n []) ∙ rw (length-replicate {A = ℕ} w 0, padded_long h n [], mul-suc w n) (add_comm w (w * n))
  padded_long h (suc n) (x ∷ xs) = length-append (f x) (padded w f n xs) ∙ rw (h x, padded_long h n xs, mul-suc w n) (add_comm w (w * n))

  -- slots that nothing is put into
  zeros : ℕ → List (List ℕ)
  zeros n = replicate n (replicate w 0)

  padded_none : (n : ℕ) → padded w f n [] ≡ flat_map (λ x. x) (zeros n)
  unfolding padded zeros
  padded_none zero = refl
  padded_none (suc n) = ap (λ ws. replicate w 0 ++ ws) (padded_none n)

  padded_flat : (n : ℕ) (xs : List A) → length xs ≤ n → padded w f n xs ≡ flat_map f xs ++ flat_map (λ x. x) (zeros (n - length xs))
  unfolding padded
  padded_flat n [] l = let e : n - 0 ≡ n = omega arith in rw e (padded_none n)
  padded_flat zero (x ∷ xs) l = absurd (omega arith)
  padded_flat (suc n) (x ∷ xs) l =
      let e : suc n - suc (length xs) ≡ n - length xs = omega arith in
      rw e (ap (λ ys. f x ++ ys) (padded_flat n xs (omega arith)) ∙ sym (append_assoc (f x) (flat_map f xs) (flat_map (λ x. x) (zeros (n - length xs)))))

  -- parts in the first slots
  pub padded_by : (most k : ℕ) (parts : List (List ℕ)) (xs : List A) → length xs ≡ k → k ≤ most → flat_map (λ x. x) parts ≡ flat_map f xs
      → flat_map (λ x. x) (parts ++ drop k (replicate most (replicate w 0))) ≡ padded w f most xs
  unfolding zeros
  padded_by most k parts xs long l e =
      let few : length xs ≤ most = omega arith in
      flat_map-append (λ x. x) parts (drop k (zeros most))
      ∙ rw (e, drop-replicate {X = List ℕ} k most (replicate {A = ℕ} w 0), ← long) (sym (padded_flat most xs few))
