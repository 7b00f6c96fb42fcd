-- The moves of a search: over, back, past what leads to nothing, down and found. Each leaves the list of ways to come as it is, or takes its
-- first; and a number falls with each.
use Rattle.std.proofs.Common.{◌≡◌, ℕ, zero, suc, ◌+◌, ◌-◌, ◌*◌, ◌<◌, ◌≤◌, Bool, true, false, List, [], ◌∷◌, ◌++◌, sym, refl, ap, ◌∙◌, append_assoc, mul-le-mul_right, add-mul, arith}
use Rattle.timeline.specs.Lists.{those, flat}
use Rattle.rows.specs.Search.{Space, paths, Barren, from, rest}
use Rattle.rows.proofs.Positions.{run_none, run_more}

module _ (S : Space) where
  from_none : (n : ℕ) (pre : List ℕ) (c : ℕ) → S.hi pre ≤ c → from S n pre c ≡ []
  unfolding from those flat
  from_none n pre c l = rw (run_none c (S.hi pre) l) refl

  from_take : (n : ℕ) (pre : List ℕ) (c : ℕ) → c < S.hi pre → S.ok pre c ≡ true → from S n pre c ≡ paths S n (c ∷ pre) ++ from S n pre (suc c)
  unfolding from those flat
  from_take n pre c l e = rw (run_more c (S.hi pre) l, e) refl

  from_past : (n : ℕ) (pre : List ℕ) (c : ℕ) → c < S.hi pre → Barren S n pre c → from S n pre c ≡ from S n pre (suc c)
  unfolding from those flat
  from_past n pre c l b = go (S.ok pre c) refl
    where
      go : (t : Bool) → S.ok pre c ≡ t → from S n pre c ≡ from S n pre (suc c)
      go true e = rw (run_more c (S.hi pre) l, e, b e) refl
      go false e = rw (run_more c (S.hi pre) l, e) refl

  paths_from : (n : ℕ) (pre : List ℕ) → paths S (suc n) pre ≡ from S n pre (S.lo pre)
  unfolding from paths
  paths_from n pre = refl

  -- nothing more at the first level
  pub over : (n : ℕ) (c : ℕ) → S.hi [] ≤ c → rest S n [] c ≡ []
  unfolding rest
  over n c l = from_none n [] c l

  -- nothing more at this level: the level before goes on
  pub back : (n : ℕ) (i : ℕ) (pre : List ℕ) (c : ℕ) → S.hi (i ∷ pre) ≤ c → rest S (suc n) pre (suc i) ≡ rest S n (i ∷ pre) c
  unfolding rest
  back n i pre c l = rw (from_none n (i ∷ pre) c l) refl

  pub past : (n : ℕ) (pre : List ℕ) (c : ℕ) → c < S.hi pre → Barren S n pre c → rest S n pre (suc c) ≡ rest S n pre c
  unfolding rest
  past n [] c l b = sym (from_past n [] c l b)
  past n (i ∷ pre) c l b = rw (from_past n (i ∷ pre) c l b) refl

  -- several at once
  pub jump : (n : ℕ) (pre : List ℕ) (m c : ℕ) → c + m ≤ S.hi pre → ((i : ℕ) → c ≤ i → i < c + m → Barren S n pre i) → rest S n pre (c + m) ≡ rest S n pre c
  jump n pre zero c l h = let e : c + zero ≡ c = omega arith in rw e refl
  jump n pre (suc m) c l h =
      let e : c + suc m ≡ suc c + m = omega arith in
      ap (rest S n pre) e ∙ jump n pre m (suc c) (omega arith) (λ i k q. h i (omega arith) (omega arith)) ∙ past n pre c (omega arith) (h c (omega arith) (omega arith))

  rest_take : (n : ℕ) (pre : List ℕ) (c : ℕ) → c < S.hi pre → S.ok pre c ≡ true → rest S n pre c ≡ paths S n (c ∷ pre) ++ rest S n pre (suc c)
  unfolding rest
  rest_take n [] c l e = from_take n [] c l e
  rest_take n (i ∷ pre) c l e =
      rw (from_take n (i ∷ pre) c l e) (append_assoc (paths S n (c ∷ i ∷ pre)) (from S n (i ∷ pre) (suc c)) (rest S (suc n) pre (suc i)))

  -- a level more
  pub down : (n : ℕ) (pre : List ℕ) (c : ℕ) → c < S.hi pre → S.ok pre c ≡ true → rest S n (c ∷ pre) (S.lo (c ∷ pre)) ≡ rest S (suc n) pre c
  unfolding rest
  down n pre c l e = sym (rest_take (suc n) pre c l e ∙ rw (paths_from n (c ∷ pre)) refl)

  -- the last level: a way
  pub found : (pre : List ℕ) (c : ℕ) → c < S.hi pre → S.ok pre c ≡ true → rest S 0 pre c ≡ (c ∷ pre) ∷ rest S 0 pre (suc c)
  unfolding paths
  found pre c l e = rest_take 0 pre c l e

-- how many moves it can take, with b positions, to pass one at a level with n levels behind it
unfoldable pub cost : ℕ → ℕ → ℕ
cost b zero = 1
cost b (suc n) = 2 + b * cost b n

-- how many moves can be left
unfoldable pub left : ℕ → ℕ → List ℕ → ℕ → ℕ
left b n [] c = (b - c) * cost b n
left b n (i ∷ pre) c = suc ((b - c) * cost b n + left b (suc n) pre (suc i))

pub left_back : (b n i : ℕ) (pre : List ℕ) (c : ℕ) → left b (suc n) pre (suc i) < left b n (i ∷ pre) c
unfolding left
left_back b n i pre c = omega arith

cost_some : (b n : ℕ) → 0 < cost b n
unfolding cost
cost_some b zero = omega arith
cost_some b (suc n) = omega arith

once : (b c k : ℕ) → c < b → (b - c) * k ≡ k + (b - suc c) * k
once b c k l = let e : b - c ≡ 1 + (b - suc c) = omega arith in rw e (omega (arith, add-mul 1 (b - suc c) k))

left_next : (b n : ℕ) (pre : List ℕ) (c : ℕ) → c < b → left b n pre c ≡ cost b n + left b n pre (suc c)
unfolding left
left_next b n [] c l = once b c (cost b n) l
left_next b n (i ∷ pre) c l = omega (arith, once b c (cost b n) l)

pub left_past : (b n : ℕ) (pre : List ℕ) (c : ℕ) → c < b → left b n pre (suc c) < left b n pre c
left_past b n pre c l = omega (arith, left_next b n pre c l, cost_some b n)

pub left_jump : (b n : ℕ) (pre : List ℕ) (m c : ℕ) → c + m ≤ b → left b n pre (c + m) ≤ left b n pre c
left_jump b n pre zero c l = let e : c + zero ≡ c = omega arith in rw e (omega arith)
left_jump b n pre (suc m) c l =
    let e : c + suc m ≡ suc c + m = omega arith in
    let a = left_jump b n pre m (suc c) (omega arith) in
    let d = left_past b n pre c (omega arith) in
    rw e (omega arith)

pub left_down : (b n : ℕ) (pre : List ℕ) (c d : ℕ) → c < b → left b n (c ∷ pre) d < left b (suc n) pre c
unfolding left cost
left_down b n pre c d l =
    let h : b - d ≤ b = omega arith in
    let k : (b - d) * cost b n ≤ b * cost b n = mul-le-mul_right (cost b n) h in
    omega (arith, left_next b (suc n) pre c l)
