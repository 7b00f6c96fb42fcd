-- The words of a part, cut out of the words of the whole: they mean what they mean there.
use Rattle.std.proofs.Common.{◌≡◌, ℕ, zero, suc, ◌+◌, ◌-◌, ◌*◌, ◌/◌, ◌<◌, ◌≤◌, Bool, true, false, ltb, Some, None, Option, Bor, List, [], ◌∷◌, length, get_or, take, drop, replicate, sym, refl, ap, ap₂, ◌∙◌, arith, add-zero, mul-suc, mul_comm, get_or-drop, drop-drop}
use Rattle.std.proofs.Math.Nat.{le-div_iff_mul-le}
use Rattle.std.proofs.lemmas.List.{take_all, length-drop, get_or-take, get_or_past, get_or-replicate}
use Rattle.std.proofs.lemmas.Bool.{ltb-true, ltb-false}
use Rattle.std.proofs.lemmas.Bool.Decides.{nat_tests}
use Rattle.std.specs.Option.{unwrap_or, option_map}
use Rattle.std.specs.Simd.{first_chunks}
use Rattle.timeline.specs.Lists.{each, run}
use Rattle.patterns.proofs.Steps.{length_run}
use Rattle.patterns.specs.Kept.{at_most, kept_test, kept_tests, kept_never, kept_nevers, step_in, step_place, kept_step}

-- so many chunks, one after the other
pub chunks_each : (n k m i o : ℕ) (xs : List ℕ) → m ≤ k → take m (first_chunks n k (drop (o + n * i) xs)) ≡ each (λ j. take n (drop (o + n * j) xs)) (run i m)
unfolding each run
chunks_each n k zero i o xs l = refl
chunks_each n zero (suc m) i o xs l = absurd (omega arith)
chunks_each n (suc k) (suc m) i o xs l =
    let e : o + n * i + n ≡ o + n * suc i = omega (arith, mul-suc n i) in
    ap (λ ys. take n (drop (o + n * i) xs) ∷ ys)
    (ap (λ ys. take m (first_chunks n k ys)) (drop-drop n (o + n * i) xs ∙ ap (λ j. drop j xs) e) ∙ chunks_each n k m (suc i) o xs (omega arith))

module _ {A : Type 0} where
  -- the same of each number of a run
  pub each_same : (f g : ℕ → A) (i m : ℕ) → ((j : ℕ) → i ≤ j → j < i + m → f j ≡ g j) → each f (run i m) ≡ each g (run i m)
  unfolding each run
  each_same f g i zero h = refl
  each_same f g i (suc m) h = ap₂ (λ x xs. x ∷ xs) (h i (omega arith) (omega arith)) (each_same f g (suc i) m (λ j l k. h j (omega arith) (omega arith)))

module _ {A B : Type 0} where
  pub each_of_each : (f : A → B) (g : ℕ → A) (xs : List ℕ) → each f (each g xs) ≡ each (λ j. f (g j)) xs
  unfolding each
  each_of_each f g [] = refl
  each_of_each f g (x ∷ xs) = ap (λ ys. f (g x) ∷ ys) (each_of_each f g xs)

-- words that are the same as far as they are read
Same : List ℕ → ℕ → List ℕ → ℕ → ℕ → Type 0
Same c n d o m = (j : ℕ) → j < m → get_or c (n + j) 0 ≡ get_or d (o + j) 0

module _ (c d : List ℕ) where
  same_test : (n o : ℕ) → Same c n d o 5 → kept_test c n ≡ kept_test d o
  unfolding Same
  same_test n o h = let z = h 0 (omega arith) in let y : get_or c n 0 ≡ get_or d o 0 = rw (add-zero, add-zero) at z in
      rw (y, h 1 (omega arith), h 2 (omega arith), h 3 (omega arith), h 4 (omega arith)) refl

  same_tests : (n o : ℕ) → Same c n d o 21 → kept_tests c n ≡ kept_tests d o
  unfolding Same kept_tests
  same_tests n o h =
      let z = h 0 (omega arith) in
      let y : get_or c n 0 ≡ get_or d o 0 = rw (add-zero, add-zero) at z in
      let few : at_most 4 (get_or d o 0) ≤ 4 = grind (arith, nat_tests) in
      rw y (each_same (λ j. kept_test c (n + 1 + 5 * j)) (λ j. kept_test d (o + 1 + 5 * j)) 0 (at_most 4 (get_or d o 0))
      (λ j l k. same_test (n + 1 + 5 * j) (o + 1 + 5 * j) (λ i m.
      let p : n + 1 + 5 * j + i ≡ n + (1 + 5 * j + i) = omega arith in
      let q : o + 1 + 5 * j + i ≡ o + (1 + 5 * j + i) = omega arith in
      rw (p, q) (h (1 + 5 * j + i) (omega arith)))))

  same_never : (n o : ℕ) → Same c n d o 22 → kept_never c n ≡ kept_never d o
  unfolding Same
  same_never n o h =
      let z = h 0 (omega arith) in
      let y : get_or c n 0 ≡ get_or d o 0 = rw (add-zero, add-zero) at z in
      let t : kept_tests c (n + 1) ≡ kept_tests d (o + 1) = same_tests (n + 1) (o + 1) (λ j k.
      let p : n + 1 + j ≡ n + (1 + j) = omega arith in
      let q : o + 1 + j ≡ o + (1 + j) = omega arith in
      rw (p, q) (h (1 + j) (omega arith))) in
      rw (y, t) refl

  same_nevers : (n o : ℕ) → Same c n d o 45 → kept_nevers c n ≡ kept_nevers d o
  unfolding Same kept_nevers
  same_nevers n o h =
      let z = h 0 (omega arith) in
      let y : get_or c n 0 ≡ get_or d o 0 = rw (add-zero, add-zero) at z in
      let few : at_most 2 (get_or d o 0) ≤ 2 = grind (arith, nat_tests) in
      rw y (each_same (λ j. kept_never c (n + 1 + 22 * j)) (λ j. kept_never d (o + 1 + 22 * j)) 0 (at_most 2 (get_or d o 0))
      (λ j l k. same_never (n + 1 + 22 * j) (o + 1 + 22 * j) (λ i m.
      let p : n + 1 + 22 * j + i ≡ n + (1 + 22 * j + i) = omega arith in
      let q : o + 1 + 22 * j + i ≡ o + (1 + 22 * j + i) = omega arith in
      rw (p, q) (h (1 + 22 * j + i) (omega arith)))))

-- a part cut out
same_cut : (c : List ℕ) (n m : ℕ) → Same (take m (drop n c)) 0 c n m
unfolding Same
same_cut c n m j l = let e : 0 + j ≡ j = omega arith in rw e (get_or-take m (drop n c) j 0 l ∙ get_or-drop n c j 0)

same_front : (c : List ℕ) (m : ℕ) → Same (take m c) 0 c 0 m
unfolding Same
same_front c m j l = let e : 0 + j ≡ j = omega arith in rw e (get_or-take m c j 0 l)

-- the tests, the nevers behind a count
pub counted_tests : (c ws : List ℕ) (n : ℕ) → ws ≡ drop n c → each (λ t. kept_test t 0) (each (λ j. take 5 (drop (1 + 5 * j) ws)) (run 0 (at_most 4 (get_or ws 0 0)))) ≡ kept_tests c n
unfolding kept_tests
counted_tests c ws n w =
    let m = at_most 4 (get_or c n 0) in
    let e : get_or (drop n c) 0 0 ≡ get_or c n 0 = get_or-drop n c 0 0 ∙ ap (λ j. get_or c j 0) (add-zero n) in
    rw (w, e) (each_of_each (λ t. kept_test t 0) (λ j. take 5 (drop (1 + 5 * j) (drop n c))) (run 0 m)
    ∙ each_same (λ j. kept_test (take 5 (drop (1 + 5 * j) (drop n c))) 0) (λ j. kept_test c (n + 1 + 5 * j)) 0 m
    (λ j l k. let p : n + (1 + 5 * j) ≡ n + 1 + 5 * j = omega arith in
    ap (λ xs. kept_test (take 5 xs) 0) (drop-drop (1 + 5 * j) n c ∙ ap (λ i. drop i c) p) ∙ same_test _ c 0 (n + 1 + 5 * j) (same_cut c (n + 1 + 5 * j) 5)))

pub counted_nevers : (c ws : List ℕ) (n : ℕ) → ws ≡ drop n c → each (λ v. kept_never v 0) (each (λ j. take 22 (drop (1 + 22 * j) ws)) (run 0 (at_most 2 (get_or ws 0 0)))) ≡ kept_nevers c n
unfolding kept_nevers
counted_nevers c ws n w =
    let m = at_most 2 (get_or c n 0) in
    let e : get_or (drop n c) 0 0 ≡ get_or c n 0 = get_or-drop n c 0 0 ∙ ap (λ j. get_or c j 0) (add-zero n) in
    rw (w, e) (each_of_each (λ v. kept_never v 0) (λ j. take 22 (drop (1 + 22 * j) (drop n c))) (run 0 m)
    ∙ each_same (λ j. kept_never (take 22 (drop (1 + 22 * j) (drop n c))) 0) (λ j. kept_never c (n + 1 + 22 * j)) 0 m
    (λ j l k. let p : n + (1 + 22 * j) ≡ n + 1 + 22 * j = omega arith in
    ap (λ xs. kept_never (take 22 xs) 0) (drop-drop (1 + 22 * j) n c ∙ ap (λ i. drop i c) p) ∙ same_never _ c 0 (n + 1 + 22 * j) (same_cut c (n + 1 + 22 * j) 22)))

-- the front of a step
pub front_never : (c : List ℕ) → kept_never (take 22 c) 0 ≡ kept_never c 0
front_never c = same_never (take 22 c) c 0 0 (same_front c 22)

-- a step
step_same : (c d : List ℕ) (s : ℕ) → Same d 0 c (step_place s) 67 → step_in d ≡ kept_step c s
unfolding Same
step_same c d s h =
    let z = h 0 (omega arith) in
    let y : get_or d 0 0 ≡ get_or c (step_place s) 0 = rw (add-zero (step_place s)) at z in
    let t : kept_tests d 1 ≡ kept_tests c (step_place s + 1) = same_tests d c 1 (step_place s + 1) (λ j k.
    let q : step_place s + 1 + j ≡ step_place s + (1 + j) = omega arith in
    let p : 1 + j ≡ 0 + (1 + j) = omega arith in
    rw q (ap (λ i. get_or d i 0) p ∙ h (1 + j) (omega arith))) in
    let v : kept_nevers d 22 ≡ kept_nevers c (step_place s + 22) = same_nevers d c 22 (step_place s + 22) (λ j k.
    let q : step_place s + 22 + j ≡ step_place s + (22 + j) = omega arith in
    let p : 22 + j ≡ 0 + (22 + j) = omega arith in
    rw q (ap (λ i. get_or d i 0) p ∙ h (22 + j) (omega arith))) in
    rw (y, t, v) refl

pub step_cut : (c : List ℕ) (s : ℕ) → step_in (take 67 (drop (step_place s) c)) ≡ kept_step c s
step_cut c s = step_same c (take 67 (drop (step_place s) c)) s (same_cut c (step_place s) 67)

pub step_none : (c : List ℕ) (s : ℕ) → length c ≡ 405 → 6 ≤ s → step_in (replicate 67 0) ≡ kept_step c s
unfolding Same
step_none c s l k =
    step_same c (replicate 67 0) s (λ j m.
    let e : 0 + j ≡ j = omega arith in
    rw e (get_or-replicate 67 j 0 0 m ∙ sym (get_or_past c (step_place s + j) 0 (omega arith))))

-- a chunk, or what is taken where there is none
chunk_at : (n k i : ℕ) (xs d : List ℕ) → i < k → get_or (first_chunks n k xs) i d ≡ take n (drop (n * i) xs)
chunk_at n zero i xs d l = absurd (omega arith)
chunk_at n (suc k) zero xs d l = let e : n * 0 ≡ 0 = omega arith in rw e refl
chunk_at n (suc k) (suc i) xs d l =
    let e : n + n * i ≡ n * suc i = omega (arith, mul-suc n i) in
    chunk_at n k i (drop n xs) d (omega arith) ∙ ap (take n) (drop-drop (n * i) n xs ∙ ap (λ j. drop j xs) e)

chunks_long : (n k : ℕ) (xs : List ℕ) → length (first_chunks n k xs) ≡ k
chunks_long n zero xs = refl
chunks_long n (suc k) xs = ap suc (chunks_long n k (drop n xs))

pub step_chunk : (c : List ℕ) (s : ℕ) → length c ≡ 405 → step_in (get_or (first_chunks 67 6 (drop 3 c)) s (replicate 67 0)) ≡ kept_step c s
step_chunk c s l = go (ltb s 6) refl
  where
    go : (b : Bool) → ltb s 6 ≡ b → step_in (get_or (first_chunks 67 6 (drop 3 c)) s (replicate 67 0)) ≡ kept_step c s
    go true e = ap step_in (chunk_at 67 6 s (drop 3 c) (replicate 67 0) (ltb-true s 6 e) ∙ ap (take 67) (drop-drop (67 * s) 3 c)) ∙ step_cut c s
    go false e =
        let past : 6 ≤ s = ltb-false s 6 e in
        ap step_in (get_or_past (first_chunks 67 6 (drop 3 c)) s (replicate 67 0) (rw (chunks_long 67 6 (drop 3 c)) past)) ∙ step_none c s l past

pub now_or : (r : Option (Bor (List ℕ))) (d : Bor (List ℕ)) → (unwrap_or r d).now ≡ unwrap_or (option_map (λ (x : Bor (List ℕ)). x.now) r) d.now
now_or None d = refl
now_or (Some x) d = refl

-- what is left behind a count
tail_of : (xs : List ℕ) → take (length xs - 1) (drop 1 xs) ≡ drop 1 xs
tail_of xs = take_all (length xs - 1) (drop 1 xs) (omega (arith, length-drop 1 xs))

pub most_chunks : (n most k : ℕ) (xs : List ℕ) → 0 < n → 1 + n * most ≤ length xs → at_most most k ≤ length (take (length xs - 1) (drop 1 xs)) / n
most_chunks n most k xs p r =
    let few : at_most most k ≤ most = grind (arith, nat_tests) in
    let room : most * n ≤ length (drop 1 xs) = omega (arith, length-drop 1 xs, mul_comm n most) in
    let all : most ≤ length (drop 1 xs) / n = (le-div_iff_mul-le p).1 room in
    rw (tail_of xs) (omega (arith, few, all))

pub behind_count : (n most k : ℕ) (xs : List ℕ) → 0 < n → 1 + n * most ≤ length xs
    → take (at_most most k) (first_chunks n (length (take (length xs - 1) (drop 1 xs)) / n) (take (length xs - 1) (drop 1 xs))) ≡ each (λ i. take n (drop (1 + n * i) xs)) (run 0 (at_most most k))
behind_count n most k xs p r =
    let few = most_chunks n most k xs p r in
    let all : take (length xs - 1) (drop 1 xs) ≡ drop (1 + n * 0) xs = let e : 1 + n * 0 ≡ 1 = omega arith in tail_of xs ∙ rw e refl in
    ap (λ ys. take (at_most most k) (first_chunks n (length (take (length xs - 1) (drop 1 xs)) / n) ys)) all
    ∙ chunks_each n (length (take (length xs - 1) (drop 1 xs)) / n) (at_most most k) 0 1 xs few

pub few_nevers : (c : List ℕ) (n : ℕ) → length (kept_nevers c n) ≤ 2
unfolding kept_nevers
few_nevers c n = rw (length_run (λ j. kept_never c (n + 1 + 22 * j)) 0 (at_most 2 (get_or c n 0))) (grind (arith, nat_tests))
