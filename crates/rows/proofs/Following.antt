-- What comes behind the first way to come: what comes from its last position on.
use Rattle.std.proofs.Common.{◌≡◌, ℕ, zero, suc, ◌+◌, ◌-◌, ◌<◌, ◌≤◌, Bool, true, false, List, [], ◌∷◌, length, get_or, drop, refl, ◌∙◌, subst, inl, inr, arith}
use Rattle.std.proofs.lemmas.Bool.{cases_lt}
use Rattle.timeline.specs.Lists.{those, flat, run}
use Rattle.timeline.proofs.Lists.{All, all_any, all_flat, all_append, clash}
use Rattle.rows.specs.Search.{Space, paths, from, rest}
use Rattle.rows.proofs.Moves.{over, back, past, down, found, left, left_back, left_past, left_down}

abbrev pub AllBelow : ℕ → List ℕ → Type 0
AllBelow b pre = All (λ i. i < b) pre

module _ (S : Space) (b : ℕ) (bound : (pre : List ℕ) → AllBelow b pre → S.hi pre ≤ b) where
  -- the first of a list is made of positions below b, and behind it comes what comes from its last position on
  abbrev Follows : List (List ℕ) → Type 0
  Follows rs = (r : List ℕ) (ys : List (List ℕ)) → rs ≡ r ∷ ys → AllBelow b r × (ys ≡ rest S 0 (drop 1 r) (suc (get_or r 0 0)))

  none_follows : (rs : List (List ℕ)) → rs ≡ [] → Follows rs
  none_follows rs e r ys q = let z : ◌≡◌ {A = ℕ} 0 1 = cc in absurd (omega arith)

  one_follows : (rs : List (List ℕ)) (c : ℕ) (pre : List ℕ) → c < b → AllBelow b pre → rs ≡ (c ∷ pre) ∷ rest S 0 pre (suc c) → Follows rs
  one_follows rs c pre l a e r ys q =
      let u : r ≡ c ∷ pre = cc in
      let d : ys ≡ rest S 0 pre (suc c) = cc in
      (rw u (l, a), d ∙ rw u refl)

  abbrev Till : ℕ → Type 0
  Till fuel = (n : ℕ) (pre : List ℕ) (c : ℕ) → AllBelow b pre → left b n pre c < fuel → Follows (rest S n pre c)

  outside : (fuel n : ℕ) (pre : List ℕ) (c : ℕ) → Till fuel → AllBelow b pre → S.hi pre ≤ c → left b n pre c < suc fuel → Follows (rest S n pre c)
  outside fuel n [] c ih a k l = none_follows (rest S n [] c) (over S n c k)
  outside fuel n (i ∷ pre) c ih a k l = subst Follows (back S n i pre c k) (ih (suc n) pre (suc i) a.1 (omega (arith, left_back b n i pre c)))

  inside : (fuel n : ℕ) (pre : List ℕ) (c : ℕ) (t : Bool) → Till fuel → AllBelow b pre → S.ok pre c ≡ t → c < S.hi pre → left b n pre c < suc fuel → Follows (rest S n pre c)
  inside fuel n pre c false ih a e k l =
      let m : c < b = omega (arith, bound pre a) in
      subst Follows (past S n pre c k (λ t. clash t e)) (ih n pre (suc c) a (omega (arith, left_past b n pre c m)))
  inside fuel zero pre c true ih a e k l = let m : c < b = omega (arith, bound pre a) in one_follows (rest S 0 pre c) c pre m a (found S pre c k e)
  inside fuel (suc n) pre c true ih a e k l =
      let m : c < b = omega (arith, bound pre a) in
      subst Follows (down S n pre c k e) (ih n (c ∷ pre) (S.lo (c ∷ pre)) (m, a) (omega (arith, left_down b n pre c (S.lo (c ∷ pre)) m)))

  follows : (fuel : ℕ) → Till fuel
  follows zero n pre c a l = absurd (omega arith)
  follows (suc fuel) n pre c a l =
      elim (cases_lt c (S.hi pre)) [ inl k ↦ inside fuel n pre c (S.ok pre c) (follows fuel) a refl k l | inr k ↦ outside fuel n pre c (follows fuel) a k l ]

  pub rest_follows : (n : ℕ) (pre : List ℕ) (c : ℕ) → AllBelow b pre → (r : List ℕ) (ys : List (List ℕ)) → rest S n pre c ≡ r ∷ ys
      → AllBelow b r × (ys ≡ rest S 0 (drop 1 r) (suc (get_or r 0 0)))
  rest_follows n pre c a = follows (suc (left b n pre c)) n pre c a (omega arith)

-- how long ways are
module _ (S : Space) where
  abbrev Long : ℕ → List ℕ → Type 0
  Long n r = length r ≡ n

  -- behind each of some positions
  steps_long : (n : ℕ) (pre : List ℕ) (m : ℕ) → ((i : ℕ) → All (Long m) (paths S n (i ∷ pre))) → (is : List ℕ) → All (Long m) (flat (λ i. paths S n (i ∷ pre)) is)
  steps_long n pre m h is = all_flat (λ i. Unit) (Long m) (λ i. paths S n (i ∷ pre)) (λ i _. h i) is (all_any (λ i. Unit) (λ i. tt) is)

  paths_long : (n : ℕ) (pre : List ℕ) (m : ℕ) → n + length pre ≡ m → All (Long m) (paths S n pre)
  unfolding paths
  paths_long zero pre m e = (omega arith, tt)
  paths_long (suc n) pre m e = steps_long n pre m (λ i. paths_long n (i ∷ pre) m (omega arith)) (those (S.ok pre) (run (S.lo pre) (S.hi pre - S.lo pre)))

  from_long : (n : ℕ) (pre : List ℕ) (c m : ℕ) → suc n + length pre ≡ m → All (Long m) (from S n pre c)
  unfolding from
  from_long n pre c m e = steps_long n pre m (λ i. paths_long n (i ∷ pre) m (omega arith)) (those (S.ok pre) (run c (S.hi pre - c)))

  pub rest_long : (n : ℕ) (pre : List ℕ) (c m : ℕ) → suc n + length pre ≡ m → All (Long m) (rest S n pre c)
  unfolding rest
  rest_long n [] c m e = from_long n [] c m e
  rest_long n (i ∷ pre) c m e =
      all_append (Long m) (from S n (i ∷ pre) c) (rest S (suc n) pre (suc i)) (from_long n (i ∷ pre) c m e) (rest_long (suc n) pre (suc i) m (omega arith))
