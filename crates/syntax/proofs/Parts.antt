-- Parts of a kept pattern: words that stand in longer words, and what they mean there.
use Rattle.std.proofs.Common.{◌≡◌, ℕ, zero, suc, ◌+◌, ◌*◌, ◌/◌, ◌<◌, ◌≤◌, List, [], ◌∷◌, length, length-take, length-take-le, length-drop, mul_comm, suc-mul, get_or, take, drop, drop-drop, sym, refl, ap, ◌∙◌, arith}
use Rattle.std.proofs.Math.Nat.{le-div_iff_mul-le}
use Rattle.std.proofs.lemmas.List.{get_or-take, get_or-drop}
use Rattle.std.proofs.lemmas.Bool.Decides.{nat_tests}
use Rattle.std.specs.Simd.{first_chunks}
use Rattle.timeline.specs.Lists.{each, run}
use Rattle.patterns.specs.Kept.{at_most, kept_test, kept_tests, kept_never, kept_nevers, step_in, step_place, kept_step}

-- the first n words of p stand in c at a place
abbrev pub Part : List ℕ → List ℕ → ℕ → ℕ → Type 0
Part c p at n = (j : ℕ) → j < n → get_or p j 0 ≡ get_or c (at + j) 0

pub part_front : (c : List ℕ) (n : ℕ) → Part c (take n c) 0 n
part_front c n = λ j l. let e : j ≡ 0 + j = omega arith in get_or-take n c j 0 l ∙ ap (λ x. get_or c x 0) e

-- one of the chunks behind the first words
pub chunk_at : (n k i : ℕ) (c d : List ℕ) → i < k → get_or (first_chunks n k c) i d ≡ take n (drop (n * i) c)
chunk_at n zero i c d l = absurd (omega arith)
chunk_at n (suc k) zero c d l = let e : n * 0 ≡ 0 = omega arith in rw e
chunk_at n (suc k) (suc i) c d l = let e : n * suc i ≡ n + n * i = grind arith in chunk_at n k i (drop n c) d (omega arith) ∙ ap (take n) (drop-drop (n * i) n c ∙ ap (λ m. drop m c) (sym e))

-- a part of a part
pub part_within : (c s p : List ℕ) (at m b n : ℕ) → Part c s at m → Part s p b n → b + n ≤ m → Part c p (at + b) n
part_within c s p at m b n f g l = λ j h. let e : at + (b + j) ≡ at + b + j = omega arith in g j h ∙ f (b + j) (omega arith) ∙ ap (λ x. get_or c x 0) e

pub part_slice : (c : List ℕ) (b n : ℕ) → Part c (take n (drop b c)) b n
part_slice c b n = λ j l. get_or-take n (drop b c) j 0 l ∙ get_or-drop b c j 0

-- a slice that lies within
slice_long : (c : List ℕ) (b l : ℕ) → b + l ≤ length c → length (take l (drop b c)) ≡ l
slice_long c b l h = length-take-le l (drop b c) (omega (arith, length-drop b c))

-- a loop over the first m of the chunks of a slice
module _ (c : List ℕ) (b l n m : ℕ) (chunks : List (List ℕ)) (fits : b + l ≤ length c) (some : 0 < n)
    (count : length chunks ≡ length (take l (drop b c)) / n) where
  chunk_count : length chunks ≡ l / n
  chunk_count = count ∙ ap (λ k. k / n) (slice_long c b l fits)

  -- what it comes to
  pub chunk_part : (i : ℕ) → chunks ≡ first_chunks n (length (take l (drop b c)) / n) (take l (drop b c)) → i < length (take m chunks) → Part c (get_or (take m chunks) i []) (b + n * i) n
  chunk_part i front on =
      let s = take l (drop b c) in
      let first = length-take m chunks in
      let whole : suc i ≤ l / n = omega (arith, chunk_count) in
      let end : n * i + n ≤ l = rw (mul_comm n i, ← suc-mul i n) ((le-div_iff_mul-le some).0 whole) in
      let part : Part s (get_or (take m chunks) i []) (n * i) n =
      λ j h.
      ap (λ p. get_or p j 0) (get_or-take m chunks i [] (omega arith) ∙ ap (λ ys. get_or ys i []) front ∙ chunk_at n (length s / n) i s [] (omega (arith, count)))
      ∙ part_slice s (n * i) n j h in
      part_within c s (get_or (take m chunks) i []) b l (n * i) n (part_slice c b l) part end

  -- how often it turns
  pub turns : (i : ℕ) → m ≤ l / n → i ≤ length (take m chunks) → length (take m chunks) ≤ i → i ≡ m
  turns i few low high = let e : length (take m chunks) ≡ m = length-take-le m chunks (omega (arith, chunk_count)) in omega arith

pub at_most_few : (m n : ℕ) → at_most m n ≤ m
at_most_few m n = grind (arith, nat_tests)

each_same : {A : Type 0} (f g : ℕ → A) (i m : ℕ) → ((j : ℕ) → j < i + m → f j ≡ g j) → each f (run i m) ≡ each g (run i m)
unfolding each run
each_same f g i zero h = refl
each_same f g i (suc m) h = ap (λ x. x ∷ each f (run (suc i) m)) (h i (omega arith)) ∙ ap (λ xs. g i ∷ xs) (each_same f g (suc i) m (λ j l. h j (omega arith)))

-- equal places and equal counts
counted_same : {A : Type 0} (f g : ℕ → A) (m n : ℕ) → m ≡ n → ((j : ℕ) → j < n → f j ≡ g j) → each f (run 0 m) ≡ each g (run 0 n)
counted_same f g m n e h = ap (λ k. each f (run 0 k)) e ∙ each_same f g 0 n (λ j l. h j (omega arith))

module _ (c p : List ℕ) (at n : ℕ) (h : Part c p at n) where
  read : (k j : ℕ) → k + j < n → get_or p (k + j) 0 ≡ get_or c (at + k + j) 0
  read k j l = let e : at + (k + j) ≡ at + k + j = omega arith in h (k + j) l ∙ ap (λ x. get_or c x 0) e

  pub test_part : (k : ℕ) → k + 5 ≤ n → kept_test p k ≡ kept_test c (at + k)
  test_part k l =
      rw (h k (omega arith), read k 1 (omega arith), read k 2 (omega arith), read k 3 (omega arith), read k 4 (omega arith))

  pub tests_part : (k : ℕ) → k + 21 ≤ n → kept_tests p k ≡ kept_tests c (at + k)
  unfolding kept_tests
  tests_part k l =
      let count : at_most 4 (get_or p k 0) ≡ at_most 4 (get_or c (at + k) 0) = ap (at_most 4) (h k (omega arith)) in
      let few = at_most_few 4 (get_or c (at + k) 0) in
      counted_same (λ i. kept_test p (k + 1 + 5 * i)) (λ i. kept_test c (at + k + 1 + 5 * i)) _ _ count
      (λ i m. let e : at + (k + 1 + 5 * i) ≡ at + k + 1 + 5 * i = omega arith in test_part (k + 1 + 5 * i) (omega arith) ∙ ap (kept_test c) e)

  pub never_part : (k : ℕ) → k + 22 ≤ n → kept_never p k ≡ kept_never c (at + k)
  never_part k l =
      let e : at + (k + 1) ≡ at + k + 1 = omega arith in
      ap (λ x. record { kind = x; tests = kept_tests p (k + 1) }) (h k (omega arith))
      ∙ ap (λ ts. record { kind = get_or c (at + k) 0; tests = ts }) (tests_part (k + 1) (omega arith) ∙ ap (kept_tests c) e)

  pub nevers_part : (k : ℕ) → k + 45 ≤ n → kept_nevers p k ≡ kept_nevers c (at + k)
  unfolding kept_nevers
  nevers_part k l =
      let count : at_most 2 (get_or p k 0) ≡ at_most 2 (get_or c (at + k) 0) = ap (at_most 2) (h k (omega arith)) in
      let few = at_most_few 2 (get_or c (at + k) 0) in
      counted_same (λ i. kept_never p (k + 1 + 22 * i)) (λ i. kept_never c (at + k + 1 + 22 * i)) _ _ count
      (λ i m. let e : at + (k + 1 + 22 * i) ≡ at + k + 1 + 22 * i = omega arith in never_part (k + 1 + 22 * i) (omega arith) ∙ ap (kept_never c) e)

-- the words of a step are the step
pub step_part : (c p : List ℕ) (s : ℕ) → Part c p (step_place s) 67 → step_in p ≡ kept_step c s
step_part c p s h =
    let kind = h 0 (omega arith) in
    let none : step_place s + 0 ≡ step_place s = omega arith in
    ap (λ x. record { kind = x; tests = kept_tests p 1; never = kept_nevers p 22 }) (kind ∙ ap (λ x. get_or c x 0) none)
    ∙ ap (λ ts. record { kind = get_or c (step_place s) 0; tests = ts; never = kept_nevers p 22 }) (tests_part c p (step_place s) 67 h 1 (omega arith))
    ∙ ap (λ vs. record { kind = get_or c (step_place s) 0; tests = kept_tests c (step_place s + 1); never = vs }) (nevers_part c p (step_place s) 67 h 22 (omega arith))
