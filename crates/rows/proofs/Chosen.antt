-- The positions chosen so far, as an array has them, and where a search can be.
use Rattle.std.proofs.Common.{◌≡◌, ℕ, zero, suc, ◌+◌, ◌<◌, ◌≤◌, Bool, true, ◌&&◌, ltb, leb, ◌≢◌, List, [], ◌∷◌, ◌++◌, length, get_or, take, drop, set, sym, refl, ap, ◌∙◌, ap₂, inl, inr, append_assoc, eq-or-lt_of_le, arith, length-append, take-suc}
use Rattle.std.specs.List.{list_all}
use Rattle.std.proofs.lemmas.List.{get_or_at, get_or_append_left, drop_more, get_or-set_other}
use Rattle.std.proofs.lemmas.Bool.{and_parts, leb-true, ltb-true, le-leb, lt-ltb}
use Rattle.timeline.specs.Lists.{every, run}
use Rattle.rows.specs.Search.{chosen, forward}
use Rattle.rows.specs.Finding.{row_hi, placed}
use Rattle.rows.specs.declared.search.Cursor.{Cursor}
use Rattle.rows.proofs.Following.{AllBelow}

pub chosen_set : (at : List ℕ) (d j v : ℕ) → d ≤ j → chosen (set at j v) d ≡ chosen at d
unfolding chosen
chosen_set at zero j v l = refl
chosen_set at (suc d) j v l =
    let ne : d ≢ j = omega arith in
    let ih = chosen_set at d j v (omega arith) in
    rw (get_or-set_other, ih) refl

pub chosen_forward : (at : List ℕ) (d : ℕ) → d ≤ length at → forward (chosen at d) ≡ take d at
unfolding chosen forward
chosen_forward at zero l = refl
chosen_forward at (suc d) l = let h : d < length at = omega arith in rw (chosen_forward at d (omega arith)) (sym (take-suc at d 0 h))

pub length_chosen : (at : List ℕ) (d : ℕ) → length (chosen at d) ≡ d
unfolding chosen
length_chosen at zero = refl
length_chosen at (suc d) = ap suc (length_chosen at d)

pub length_forward : (r : List ℕ) → length (forward r) ≡ length r
unfolding forward
length_forward [] = refl
length_forward (x ∷ r) = length-append (forward r) (x ∷ []) ∙ omega (arith, length_forward r)

-- a way that is written out oldest first is read back
pub chosen_back : (r xs : List ℕ) → chosen (forward r ++ xs) (length r) ≡ r
unfolding chosen forward
chosen_back [] xs = refl
chosen_back (x ∷ r) xs =
    let e : (forward r ++ x ∷ []) ++ xs ≡ forward r ++ x ∷ xs = append_assoc (forward r) (x ∷ []) xs in
    ap (λ ys. chosen ys (suc (length r))) e ∙ ap₂ (λ y ys. y ∷ ys) (get_or_at (forward r) x xs 0 (length r) (length_forward r)) (chosen_back r (x ∷ xs))

-- positions below a bound
pub below_chosen : (b : ℕ) (at : List ℕ) (d : ℕ) → ((j : ℕ) → j < d → get_or at j 0 < b) → AllBelow b (chosen at d)
unfolding chosen
below_chosen b at zero h = tt
below_chosen b at (suc d) h = (h d (omega arith), below_chosen b at d (λ j l. h j (omega arith)))

pub chosen_below : (b : ℕ) (at : List ℕ) (d : ℕ) → AllBelow b (chosen at d) → (j : ℕ) → j < d → get_or at j 0 < b
unfolding chosen
chosen_below b at zero a j l = absurd (omega arith)
chosen_below b at (suc d) a j l =
    elim (eq-or-lt_of_le l) [ inl e ↦ (let q : j ≡ d = omega arith in rw q a.0) | inr m ↦ chosen_below b at d a.1 j (omega arith) ]

pub every_run : (f : ℕ → Bool) (n a : ℕ) → ((j : ℕ) → a ≤ j → j < a + n → f j ≡ true) → every f (run a n) ≡ true
unfolding every run
every_run f zero a h = refl
every_run f (suc n) a h = rw (h a (omega arith) (omega arith)) (every_run f n (suc a) (λ j k l. h j (omega arith) (omega arith)))

run_every : (f : ℕ → Bool) (n a : ℕ) → every f (run a n) ≡ true → (j : ℕ) → a ≤ j → j < a + n → f j ≡ true
unfolding every run
run_every f zero a h j k l = absurd (omega arith)
run_every f (suc n) a h j k l = elim (eq-or-lt_of_le k) [ inl e ↦ (rw e at parts.0) | inr m ↦ run_every f n (suc a) parts.1 j m (omega arith) ]
  where
    parts : (f a ≡ true) × (every f (run (suc a) n) ≡ true)
    parts = and_parts (f a) (every f (run (suc a) n)) h

-- a test of so many of a list, said by their places
pub every_taken : (test : ℕ → Bool) (xs : List ℕ) (n c : ℕ) → c + n ≤ length xs → list_all test (take n (drop c xs)) ≡ every (λ j. test (get_or xs j 0)) (run c n)
unfolding every run
every_taken test xs zero c l = refl
every_taken test xs (suc n) c l =
    let e : c + 1 ≡ suc c = omega arith in
    rw (drop_more xs c 0 (omega arith), e) (ap (λ b. test (get_or xs c 0) && b) (every_taken test xs n (suc c) (omega arith)))

-- what it says that a search can be at a cursor
pub record Placed (n upto k : ℕ) (c : Cursor) : Type 0 where
  pub some : 1 ≤ k
  pub few : k ≤ 6
  pub short : upto ≤ n
  pub deep : c.depth < k
  pub here : get_or c.at c.depth 0 ≤ upto
  pub before : (j : ℕ) → j < c.depth → get_or c.at j 0 < upto

pub placed_parts : (n upto k : ℕ) (c : Cursor) → placed n upto k c ≡ true → Placed n upto k c
placed_parts n upto k c h =
    let below = every (λ j. ltb (get_or c.at j 0) upto) (run 0 c.depth) in
    let a = and_parts (leb 1 k && leb k 6) ((leb upto n && ltb c.depth k) && (leb (get_or c.at c.depth 0) upto && below)) h in
    let b = and_parts (leb upto n && ltb c.depth k) (leb (get_or c.at c.depth 0) upto && below) a.1 in
    let d = and_parts (leb (get_or c.at c.depth 0) upto) below b.1 in
    let e = and_parts (leb 1 k) (leb k 6) a.0 in
    let f = and_parts (leb upto n) (ltb c.depth k) b.0 in
    record {
      some = leb-true _ _ e.0;
      few = leb-true _ _ e.1;
      short = leb-true _ _ f.0;
      deep = ltb-true _ _ f.1;
      here = leb-true _ _ d.0;
      before = λ j l. ltb-true _ _ (run_every (λ j. ltb (get_or c.at j 0) upto) c.depth 0 d.1 j (omega arith) (omega arith));
    }

pub parts_placed : (n upto k : ℕ) (c : Cursor) → Placed n upto k c → placed n upto k c ≡ true
parts_placed n upto k c p =
    let a = le-leb 1 k p.some in
    let b = le-leb k 6 p.few in
    let d = le-leb upto n p.short in
    let e = lt-ltb c.depth k p.deep in
    let f = le-leb (get_or c.at c.depth 0) upto p.here in
    let g : every (λ j. ltb (get_or c.at j 0) upto) (run 0 c.depth) ≡ true = every_run (λ j. ltb (get_or c.at j 0) upto) c.depth 0 (λ j k l. lt-ltb (get_or c.at j 0) upto (p.before j (omega arith))) in
    rw (a, b, d, e, f, g) refl

-- no level of a pattern's search goes beyond the bound
pub hi_bound : (upto : ℕ) (pre : List ℕ) → AllBelow upto pre → row_hi upto pre ≤ upto
unfolding row_hi forward
hi_bound upto [] a = omega arith
hi_bound upto (i ∷ pre) a = first (i ∷ pre) a
  where
    first : (pre : List ℕ) → AllBelow upto pre → get_or (forward pre) 0 0 ≤ upto
    first [] a = omega arith
    first (i ∷ []) a = omega (arith, a.0)
    first (i ∷ j ∷ pre) a = let e = get_or_append_left (forward (j ∷ pre)) (i ∷ []) 0 0 (omega (arith, length_forward (j ∷ pre))) in omega (arith, e, first (j ∷ pre) a.1)
