-- Lists: what holds of each element and of each pair, filters, flattened lists.
use Rattle.std.proofs.Common.{◌≡◌, ℕ, zero, suc, ◌<◌, Bool, true, false, ◌&&◌, List, [], ◌∷◌, ◌++◌, length, get_or, drop, sym, refl, ap, ◌∙◌, true≢false, not-suc-le-zero, arith}
use Rattle.std.proofs.lemmas.List.{drop_at}
use Rattle.timeline.specs.Lists.{pick, every, any, those, flat}

-- a test that both holds and fails
pub clash : {X : Type 0} {b : Bool} → b ≡ true → b ≡ false → X
clash p q = absurd (true≢false (sym p ∙ q))

module _ {A : Type 0} where
  abbrev pub All : (A → Type 0) → List A → Type 0
  All P [] = Unit
  All P (x ∷ xs) = P x × All P xs

  abbrev pub Pairs : (A → A → Type 0) → List A → Type 0
  Pairs R [] = Unit
  Pairs R (x ∷ xs) = All (R x) xs × Pairs R xs

  pub all_any : (P : A → Type 0) → ((x : A) → P x) → (xs : List A) → All P xs
  all_any P h [] = tt
  all_any P h (x ∷ xs) = (h x, all_any P h xs)

  pub all_map : (P Q : A → Type 0) → ((x : A) → P x → Q x) → (xs : List A) → All P xs → All Q xs
  all_map P Q h [] a = tt
  all_map P Q h (x ∷ xs) a = (h x a.0, all_map P Q h xs a.1)

  pub all_both : (P Q : A → Type 0) (xs : List A) → All P xs → All Q xs → All (λ x. P x × Q x) xs
  all_both P Q [] a b = tt
  all_both P Q (x ∷ xs) a b = ((a.0, b.0), all_both P Q xs a.1 b.1)

  pub all_append : (P : A → Type 0) (xs ys : List A) → All P xs → All P ys → All P (xs ++ ys)
  all_append P [] ys a b = b
  all_append P (x ∷ xs) ys a b = (a.0, all_append P xs ys a.1 b)

  pub all_front : (P : A → Type 0) (xs ys : List A) → All P (xs ++ ys) → All P xs
  all_front P [] ys a = tt
  all_front P (x ∷ xs) ys a = (a.0, all_front P xs ys a.1)

  -- what passes the test, passes it
  pub all_those : (P : A → Type 0) (f : A → Bool) (xs : List A) → All P xs → All (λ x. P x × (f x ≡ true)) (those f xs)
  unfolding those
  all_those P f [] a = tt
  all_those P f (x ∷ xs) a = let ih = all_those P f xs a.1 in grind arith

  pub all_part : (P : A → Type 0) (f : A → Bool) (xs : List A) → All P xs → All P (those f xs)
  all_part P f xs a = all_map (λ x. P x × (f x ≡ true)) P (λ x h. h.0) (those f xs) (all_those P f xs a)

  pub those_append : (f : A → Bool) (xs ys : List A) → those f (xs ++ ys) ≡ those f xs ++ those f ys
  unfolding those
  those_append f [] ys = refl
  those_append f (x ∷ xs) ys = let ih = those_append f xs ys in grind arith

  pub those_none : (f : A → Bool) (xs : List A) → All (λ x. f x ≡ false) xs → those f xs ≡ []
  unfolding those
  those_none f [] a = refl
  those_none f (x ∷ xs) a = rw a.0 (those_none f xs a.1)

  pub those_all : (f : A → Bool) (xs : List A) → All (λ x. f x ≡ true) xs → those f xs ≡ xs
  unfolding those
  those_all f [] a = refl
  those_all f (x ∷ xs) a = rw a.0 (ap {B = List A} (λ r. x ∷ r) (those_all f xs a.1))

  pub those_same : (f g : A → Bool) (xs : List A) → All (λ x. f x ≡ g x) xs → those f xs ≡ those g xs
  unfolding those
  those_same f g [] a = refl
  those_same f g (x ∷ xs) a = let h = those_same f g xs a.1 in rw (a.0, h)

  -- a test that passes on a list also passes on a part of it that has all that could pass
  pub any_those : (f k : A → Bool) (xs : List A) → All (λ x. k x ≡ false → f x ≡ false) xs → any f xs ≡ any f (those k xs)
  unfolding any those
  any_those f k [] a = refl
  any_those f k (x ∷ xs) a = let ih = any_those f k xs a.1 in let h = a.0 in grind arith

module _ {A B : Type 0} where
  pub all_flat : (P : A → Type 0) (Q : B → Type 0) (g : A → List B) → ((x : A) → P x → All Q (g x)) → (xs : List A) → All P xs → All Q (flat g xs)
  unfolding flat
  all_flat P Q g h [] a = tt
  all_flat P Q g h (x ∷ xs) a = all_append Q (g x) (flat g xs) (h x a.0) (all_flat P Q g h xs a.1)

  pub those_flat : (f : B → Bool) (g : A → List B) (xs : List A) → those f (flat g xs) ≡ flat (λ x. those f (g x)) xs
  unfolding flat those
  those_flat f g [] = refl
  those_flat f g (x ∷ xs) = those_append f (g x) (flat g xs) ∙ ap (λ r. those f (g x) ++ r) (those_flat f g xs)

  -- two ways to go through a list, the second only through those that pass k
  pub flat_those : (g h : A → List B) (p q k : A → Bool) (xs : List A) → All (λ x. pick (p x) (g x) [] ≡ pick (k x) (pick (q x) (h x) []) []) xs
      → flat g (those p xs) ≡ flat h (those q (those k xs))
  unfolding those flat
  flat_those g h p q k [] a = refl
  flat_those g h p q k (x ∷ xs) a = let ih = flat_those g h p q k xs a.1 in let e = a.0 in grind arith

-- PAIRS: what holds of each and each later one
module _ {A : Type 0} where
  pub pairs_map : (R S : A → A → Type 0) → ((x y : A) → R x y → S x y) → (xs : List A) → Pairs R xs → Pairs S xs
  pairs_map R S h [] a = tt
  pairs_map R S h (x ∷ xs) a = (all_map (R x) (S x) (h x) xs a.0, pairs_map R S h xs a.1)

  pub pairs_those : (R : A → A → Type 0) (f : A → Bool) (xs : List A) → Pairs R xs → Pairs R (those f xs)
  unfolding those
  pairs_those R f [] a = tt
  pairs_those R f (x ∷ xs) a = let ih = pairs_those R f xs a.1 in let h = all_part (R x) f xs a.0 in grind arith

  pub pairs_append : (R : A → A → Type 0) (xs ys : List A) → Pairs R xs → Pairs R ys → All (λ x. All (R x) ys) xs → Pairs R (xs ++ ys)
  pairs_append R [] ys a b c = b
  pairs_append R (x ∷ xs) ys a b c = (all_append (R x) xs ys a.0 c.0, pairs_append R xs ys a.1 b c.1)

module _ {A B : Type 0} where
  cross_flat : (R : B → B → Type 0) (g : A → List B) (us : List B) (xs : List A) → All (λ y. All (λ r. All (R r) (g y)) us) xs → All (λ r. All (R r) (flat g xs)) us
  unfolding flat
  cross_flat R g us [] a = all_any (λ r. Unit) (λ r. tt) us
  cross_flat R g us (y ∷ ys) a =
      all_map (λ r. All (R r) (g y) × All (R r) (flat g ys)) (λ r. All (R r) (flat g (y ∷ ys))) (λ r h. all_append (R r) (g y) (flat g ys) h.0 h.1) us
      (all_both (λ r. All (R r) (g y)) (λ r. All (R r) (flat g ys)) us a.0 (cross_flat R g us ys a.1))

  pub pairs_flat : (S : A → A → Type 0) (R : B → B → Type 0) (g : A → List B) → ((x : A) → Pairs R (g x)) → ((x y : A) → S x y → All (λ r. All (R r) (g y)) (g x))
      → (xs : List A) → Pairs S xs → Pairs R (flat g xs)
  unfolding flat
  pairs_flat S R g h k [] a = tt
  pairs_flat S R g h k (x ∷ xs) a =
      pairs_append R (g x) (flat g xs) (h x) (pairs_flat S R g h k xs a.1)
      (cross_flat R g (g x) xs (all_map (S x) (λ y. All (λ r. All (R r) (g y)) (g x)) (k x) xs a.0))

module _ {A : Type 0} where
  -- one test after another
  pub those_those : (f g : A → Bool) (xs : List A) → those f (those g xs) ≡ those (λ x. g x && f x) xs
  unfolding those
  those_those f g [] = refl
  those_those f g (x ∷ xs) = let ih = those_those f g xs in grind arith

  pub drop_front : (xs ys : List A) → drop (length xs) (xs ++ ys) ≡ ys
  drop_front xs ys = drop_at xs ys (length xs) refl

  pub all_at : (P : A → Type 0) (xs : List A) (d : A) → All P xs → (i : ℕ) → i < length xs → P (get_or xs i d)
  all_at P [] d a i h = absurd (not-suc-le-zero h)
  all_at P (x ∷ xs) d a zero h = a.0
  all_at P (x ∷ xs) d a (suc i) h = all_at P xs d a.1 i (omega arith)

  pub pairs_at : (R : A → A → Type 0) (xs : List A) (d : A) → Pairs R xs → (i j : ℕ) → i < j → j < length xs → R (get_or xs i d) (get_or xs j d)
  pairs_at R [] d a i j l h = absurd (not-suc-le-zero h)
  pairs_at R (x ∷ xs) d a i zero l h = absurd (not-suc-le-zero l)
  pairs_at R (x ∷ xs) d a zero (suc j) l h = all_at (R x) xs d a.0 j (omega arith)
  pairs_at R (x ∷ xs) d a (suc i) (suc j) l h = pairs_at R xs d a.1 i j (omega arith) (omega arith)

  pub every_same : (f g : A → Bool) (xs : List A) → All (λ x. f x ≡ g x) xs → every f xs ≡ every g xs
  unfolding every
  every_same f g [] a = refl
  every_same f g (x ∷ xs) a = let ih = every_same f g xs a.1 in rw (a.0, ih)

  pub any_same : (f g : A → Bool) (xs : List A) → All (λ x. f x ≡ g x) xs → any f xs ≡ any g xs
  unfolding any
  any_same f g [] a = refl
  any_same f g (x ∷ xs) a = let ih = any_same f g xs a.1 in rw (a.0, ih)

  -- the pairs of a list in two parts: of each with each of the other, and of the second part
  pub pairs_cross : (R : A → A → Type 0) (xs ys : List A) → Pairs R (xs ++ ys) → All (λ x. All (R x) ys) xs
  pairs_cross R [] ys a = tt
  pairs_cross R (x ∷ xs) ys a = (all_back (R x) xs ys a.0, pairs_cross R xs ys a.1)
    where
      all_back : (P : A → Type 0) (xs ys : List A) → All P (xs ++ ys) → All P ys
      all_back P [] ys a = a
      all_back P (x ∷ xs) ys a = all_back P xs ys a.1

  pub pairs_back : (R : A → A → Type 0) (xs ys : List A) → Pairs R (xs ++ ys) → Pairs R ys
  pairs_back R [] ys a = a
  pairs_back R (x ∷ xs) ys a = pairs_back R xs ys a.1
