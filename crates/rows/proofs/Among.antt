-- What is among a list: of filters, flattened and sorted lists, and of tests that hold of some or of none.
use Rattle.std.proofs.Common.{◌≡◌, Bool, true, false, List, [], ◌∷◌, ◌++◌, refl, inl, inr, arith}
use Rattle.timeline.specs.Lists.{pick, any, those, flat}
use Rattle.timeline.proofs.Lists.{All, all_map}
use Rattle.timeline.proofs.Sorting.{ins, isort, all_isort}
use Rattle.rows.specs.Fitting.{Among}

module _ {A : Type 0} where
  -- what holds of each holds of one of them
  pub among_all : (P : A → Type 0) (x : A) (xs : List A) → Among x xs → All P xs → P x
  unfolding Among
  among_all P x [] m a = absurd m
  among_all P x (y ∷ ys) (inl e) a = rw e a.0
  among_all P x (y ∷ ys) (inr m) a = among_all P x ys m a.1

  pub all_among : (xs : List A) → All (λ x. Among x xs) xs
  unfolding Among
  all_among [] = tt
  all_among (x ∷ xs) = (inl refl, all_map (λ y. Among y xs) (λ y. Among y (x ∷ xs)) (λ y m. inr m) xs (all_among xs))

  pub among_first : (x : A) (xs : List A) → Among x (x ∷ xs)
  unfolding Among
  among_first x xs = inl refl

  pub among_left : (x : A) (xs ys : List A) → Among x xs → Among x (xs ++ ys)
  unfolding Among
  among_left x [] ys m = absurd m
  among_left x (z ∷ xs) ys (inl e) = inl e
  among_left x (z ∷ xs) ys (inr m) = inr (among_left x xs ys m)

  pub among_right : (x : A) (xs ys : List A) → Among x ys → Among x (xs ++ ys)
  unfolding Among
  among_right x [] ys m = m
  among_right x (z ∷ xs) ys m = inr (among_right x xs ys m)

  pub among_those : (f : A → Bool) (x : A) (xs : List A) → Among x xs → f x ≡ true → Among x (those f xs)
  unfolding Among those
  among_those f x [] m h = absurd m
  among_those f x (y ∷ ys) (inl e) h = let k : f y ≡ true = rw (← e) h in rw k (inl e)
  among_those f x (y ∷ ys) (inr m) h = go (f y) (among_those f x ys m h)
    where
      go : (b : Bool) → Among x (those f ys) → Among x (pick b (y ∷ those f ys) (those f ys))
      go true k = inr k
      go false k = k

  -- a test that fails of each fails of one of them
  pub none_among : (f : A → Bool) (x : A) (xs : List A) → any f xs ≡ false → Among x xs → f x ≡ false
  unfolding Among any
  none_among f x [] h m = absurd m
  none_among f x (y ∷ ys) h (inl e) = rw e (grind arith)
  none_among f x (y ∷ ys) h (inr m) = none_among f x ys (grind arith) m

  pub any_none : (f : A → Bool) (xs : List A) → ((x : A) → Among x xs → f x ≡ false) → any f xs ≡ false
  unfolding Among any
  any_none f [] h = refl
  any_none f (x ∷ xs) h = let ih = any_none f xs (λ y m. h y (inr m)) in let k = h x (inl refl) in grind arith

  among_ins : (lt : A → A → Bool) (x e : A) (fs : List A) → Among x (e ∷ fs) → Among x (ins lt e fs)
  unfolding Among ins
  among_ins lt x e [] m = m
  among_ins lt x e (f ∷ fs) m = go (lt e f) m (among_ins lt x e fs)
    where
      later : Among x (e ∷ f ∷ fs) → (Among x (e ∷ fs) → Among x (ins lt e fs)) → Among x (f ∷ ins lt e fs)
      later (inl q) ih = inr (ih (inl q))
      later (inr (inl q)) ih = inl q
      later (inr (inr q)) ih = inr (ih (inr q))

      go : (b : Bool) → Among x (e ∷ f ∷ fs) → (Among x (e ∷ fs) → Among x (ins lt e fs)) → Among x (pick b (e ∷ f ∷ fs) (f ∷ ins lt e fs))
      go true m ih = m
      go false m ih = later m ih

  pub among_sorted : (lt : A → A → Bool) (x : A) (es : List A) → Among x es → Among x (isort lt es)
  unfolding Among isort
  among_sorted lt x [] m = m
  among_sorted lt x (e ∷ es) (inl q) = among_ins lt x e (isort lt es) (inl q)
  among_sorted lt x (e ∷ es) (inr m) = among_ins lt x e (isort lt es) (inr (among_sorted lt x es m))

  pub sorted_among : (lt : A → A → Bool) (x : A) (es : List A) → Among x (isort lt es) → Among x es
  sorted_among lt x es m = among_all (λ y. Among y es) x (isort lt es) m (all_isort lt (λ y. Among y es) es (all_among es))

module _ {A B : Type 0} where
  pub among_flat : (g : A → List B) (x : A) (xs : List A) (y : B) → Among x xs → Among y (g x) → Among y (flat g xs)
  unfolding Among flat
  among_flat g x [] y m k = absurd m
  among_flat g x (z ∷ xs) y (inl e) k = among_left y (g z) (flat g xs) (rw (← e) k)
  among_flat g x (z ∷ xs) y (inr m) k = among_right y (g z) (flat g xs) (among_flat g x xs y m k)
