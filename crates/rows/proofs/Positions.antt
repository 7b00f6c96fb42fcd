-- Runs of positions, what is gathered over them, and lists by what stands at their positions.
use Rattle.std.proofs.Common.{◌≡◌, ℕ, zero, suc, ◌+◌, ◌-◌, ◌<◌, ◌≤◌, Bool, true, false, List, [], ◌∷◌, ◌++◌, length, get_or, sym, refl, ap, ◌∙◌, ap₂, append_assoc, append-nil, inl, inr, eq-or-lt_of_le, arith}
use Rattle.timeline.specs.declared.events.Event.{Event}
use Rattle.timeline.specs.Lists.{pick, or, any, those, flat, each, run}
use Rattle.timeline.specs.Order.{nth}
use Rattle.timeline.proofs.Lists.{all_any}
use Rattle.rows.proofs.Picks.{or_right}
use Rattle.rows.proofs.Eaches.{at_each}
use Rattle.timeline.proofs.Each.{any_each}

-- it holds of every number from a on and below b
abbrev pub Within : (ℕ → Type 0) → ℕ → ℕ → Type 0
Within P a b = (i : ℕ) → a ≤ i → i < b → P i

run_append : (a m n : ℕ) → run a (m + n) ≡ run a m ++ run (a + m) n
unfolding run
run_append a zero n = let e : zero + n ≡ n = omega arith in let f : a + zero ≡ a = omega arith in rw (e, f) refl
run_append a (suc m) n =
    let e : suc m + n ≡ suc (m + n) = omega arith in
    let f : a + suc m ≡ suc a + m = omega arith in
    rw (e, f) (ap (λ r. a ∷ r) (run_append (suc a) m n))

pub run_none : (c h : ℕ) → h ≤ c → run c (h - c) ≡ []
unfolding run
run_none c h l = let e : h - c ≡ 0 = omega arith in rw e refl

pub run_more : (c h : ℕ) → c < h → run c (h - c) ≡ c ∷ run (suc c) (h - suc c)
unfolding run
run_more c h l = let e : h - c ≡ suc (h - suc c) = omega arith in rw e refl

-- a run in three parts
run_parts : (a b n : ℕ) → a ≤ b → b ≤ n → run 0 n ≡ run 0 a ++ (run a (b - a) ++ run b (n - b))
run_parts a b n h k =
    let e : n ≡ a + ((b - a) + (n - b)) = omega arith in
    let f : a + (b - a) ≡ b = omega arith in
    let g : 0 + a ≡ a = omega arith in
    ap (run 0) e ∙ run_append 0 a ((b - a) + (n - b)) ∙ rw (g, run_append a (b - a) (n - b), f) refl

module _ {A B : Type 0} where
  pub each_pick : (f : A → B) (b : Bool) (xs : List A) → each f (pick b xs []) ≡ pick b (each f xs) []
  unfolding each
  each_pick f true xs = refl
  each_pick f false xs = refl

  pub flat_append : (g : A → List B) (xs ys : List A) → flat g (xs ++ ys) ≡ flat g xs ++ flat g ys
  unfolding flat
  flat_append g [] ys = refl
  flat_append g (x ∷ xs) ys = ap (λ r. g x ++ r) (flat_append g xs ys) ∙ sym (append_assoc (g x) (flat g xs) (flat g ys))

  pub flat_pick : (g : A → List B) (f : A → Bool) (xs : List A) → flat g (those f xs) ≡ flat (λ x. pick (f x) (g x) []) xs
  unfolding flat those
  flat_pick g f [] = refl
  flat_pick g f (x ∷ xs) = let ih = flat_pick g f xs in grind arith

module _ {B : Type 0} where
  pub flat_none : (g : ℕ → List B) (a n : ℕ) → Within (λ i. g i ≡ []) a (a + n) → flat g (run a n) ≡ []
  unfolding flat run
  flat_none g a zero h = refl
  flat_none g a (suc n) h = rw (h a (omega arith) (omega arith)) (flat_none g (suc a) n (λ i k l. h i (omega arith) (omega arith)))

  pub flat_same : (g k : ℕ → List B) (a n : ℕ) → Within (λ i. g i ≡ k i) a (a + n) → flat g (run a n) ≡ flat k (run a n)
  unfolding flat run
  flat_same g k a zero h = refl
  flat_same g k a (suc n) h = ap₂ (λ u v. u ++ v) (h a (omega arith) (omega arith)) (flat_same g k (suc a) n (λ i p l. h i (omega arith) (omega arith)))

  -- only what is between a and b gives anything
  pub flat_narrow : (g k : ℕ → List B) (a b n : ℕ) → a ≤ b → b ≤ n → Within (λ i. g i ≡ []) 0 a → Within (λ i. g i ≡ k i) a b → Within (λ i. g i ≡ []) b n
      → flat g (run 0 n) ≡ flat k (run a (b - a))
  flat_narrow g k a b n p q u v t =
      ap (flat g) (run_parts a b n p q) ∙ flat_append g (run 0 a) (run a (b - a) ++ run b (n - b))
      ∙ ap (λ r. flat g (run 0 a) ++ r) (flat_append g (run a (b - a)) (run b (n - b)))
      ∙ ap₂ (λ x y. x ++ y) (flat_none g 0 a (λ i x y. u i x (omega arith)))
      (ap₂ (λ x y. x ++ y) (flat_same g k a (b - a) (λ i x y. v i x (omega arith))) (flat_none g b (n - b) (λ i x y. t i x (omega arith))))
      ∙ append-nil (flat k (run a (b - a)))

any_append : {A : Type 0} (f : A → Bool) (xs ys : List A) → any f (xs ++ ys) ≡ or (any f xs) (any f ys)
unfolding any
any_append f [] ys = refl
any_append f (x ∷ xs) ys = let ih = any_append f xs ys in grind arith

pub any_none : (f : ℕ → Bool) (a n : ℕ) → Within (λ i. f i ≡ false) a (a + n) → any f (run a n) ≡ false
unfolding any run
any_none f a zero h = refl
any_none f a (suc n) h = rw (h a (omega arith) (omega arith)) (any_none f (suc a) n (λ i k l. h i (omega arith) (omega arith)))

-- one that passes is enough
pub any_at : (f : ℕ → Bool) (a n j : ℕ) → a ≤ j → j < a + n → f j ≡ true → any f (run a n) ≡ true
unfolding any run
any_at f a zero j k l e = absurd (omega arith)
any_at f a (suc n) j k l e =
    elim (eq-or-lt_of_le k) [
      | inl q ↦ let t : f a ≡ true = ap f q ∙ e in rw t refl
      | inr m ↦ or_right (f a) (any f (run (suc a) n)) (any_at f (suc a) n j m (omega arith) e)
    ]

any_same : (f g : ℕ → Bool) (a n : ℕ) → Within (λ i. f i ≡ g i) a (a + n) → any f (run a n) ≡ any g (run a n)
unfolding any run
any_same f g a zero h = refl
any_same f g a (suc n) h = ap₂ or (h a (omega arith) (omega arith)) (any_same f g (suc a) n (λ i p l. h i (omega arith) (omega arith)))

-- only what is between a and b can pass
any_narrow : (f g : ℕ → Bool) (a b n : ℕ) → a ≤ b → b ≤ n → Within (λ i. f i ≡ false) 0 a → Within (λ i. f i ≡ g i) a b → Within (λ i. f i ≡ false) b n
    → any f (run 0 n) ≡ any g (run a (b - a))
any_narrow f g a b n p q u v t =
    ap (any f) (run_parts a b n p q) ∙ any_append f (run 0 a) (run a (b - a) ++ run b (n - b))
    ∙ ap (or (any f (run 0 a))) (any_append f (run a (b - a)) (run b (n - b)))
    ∙ ap₂ or (any_none f 0 a (λ i x y. u i x (omega arith)))
    (ap₂ or (any_same f g a (b - a) (λ i x y. v i x (omega arith))) (any_none f b (n - b) (λ i x y. t i x (omega arith))))
    ∙ or_false (any g (run a (b - a)))
  where
    or_false : (b : Bool) → or b false ≡ b
    or_false true = refl
    or_false false = refl

-- a list is what stands at its positions
shifted : (e : Event) (h : List Event) (a n : ℕ) → each (nth (e ∷ h)) (run (suc a) n) ≡ each (nth h) (run a n)
unfolding each run nth
shifted e h a zero = refl
shifted e h a (suc n) = ap (λ r. nth h a ∷ r) (shifted e h (suc a) n)

pub each_nth : (h : List Event) → each (nth h) (run 0 (length h)) ≡ h
unfolding each run nth
each_nth [] = refl
each_nth (e ∷ h) = ap (λ r. e ∷ r) (shifted e h 0 (length h) ∙ each_nth h)

pub nth_each : (h : List Event) (ps : List ℕ) (j : ℕ) → j < length ps → nth (each (nth h) ps) j ≡ nth h (get_or ps j 0)
nth_each h ps j l = at_each (nth h) ps j 0 l

-- a test passes on a part of a list by positions alone
pub any_between : (f : Event → Bool) (g : ℕ → Bool) (h : List Event) (a b : ℕ) → a ≤ b → b ≤ length h → Within (λ i. f (nth h i) ≡ false) 0 a
    → Within (λ i. f (nth h i) ≡ g i) a b → Within (λ i. f (nth h i) ≡ false) b (length h) → any f h ≡ any g (run a (b - a))
any_between f g h a b p q u v t =
    ap (any f) (sym (each_nth h)) ∙ any_each f (nth h) (λ i. f (nth h i)) (run 0 (length h)) (all_any (λ i. f (nth h i) ≡ f (nth h i)) (λ i. refl) (run 0 (length h))) ∙ any_narrow (λ i. f (nth h i)) g a b (length h) p q u v t
