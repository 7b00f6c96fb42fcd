-- A function of each element, beside filters and flattened lists.
use Rattle.std.proofs.Common.{◌≡◌, Bool, List, [], ◌∷◌, ◌++◌, refl, ap, ◌∙◌, arith}
use Rattle.timeline.specs.Lists.{any, those, each, flat}
use Rattle.timeline.proofs.Lists.{All}

module _ {A B : Type 0} where
  pub each_append : (g : A → B) (xs ys : List A) → each g (xs ++ ys) ≡ each g xs ++ each g ys
  unfolding each
  each_append g [] ys = refl
  each_append g (x ∷ xs) ys = ap {B = List B} (λ r. g x ∷ r) (each_append g xs ys)

  pub those_each : (f : B → Bool) (g : A → B) (xs : List A) → those f (each g xs) ≡ each g (those (λ x. f (g x)) xs)
  unfolding those each
  those_each f g [] = refl
  those_each f g (x ∷ xs) = let ih = those_each f g xs in grind arith

  pub flat_same : (f g : A → List B) (xs : List A) → All (λ x. f x ≡ g x) xs → flat f xs ≡ flat g xs
  unfolding flat
  flat_same f g [] a = refl
  flat_same f g (x ∷ xs) a = let ih = flat_same f g xs a.1 in rw (a.0, ih)

  -- a test of a function of each is a test of each
  pub any_each : (f : B → Bool) (g : A → B) (h : A → Bool) (xs : List A) → All (λ x. f (g x) ≡ h x) xs → any f (each g xs) ≡ any h xs
  unfolding any each
  any_each f g h [] a = refl
  any_each f g h (x ∷ xs) a = let ih = any_each f g h xs a.1 in rw (a.0, ih)

module _ {A B C : Type 0} where
  pub flat_each : (f : B → List C) (g : A → B) (xs : List A) → flat f (each g xs) ≡ flat (λ x. f (g x)) xs
  unfolding flat each
  flat_each f g [] = refl
  flat_each f g (x ∷ xs) = ap (λ r. f (g x) ++ r) (flat_each f g xs)

  pub each_flat : (g : B → C) (f : A → List B) (xs : List A) → each g (flat f xs) ≡ flat (λ x. each g (f x)) xs
  unfolding flat each
  each_flat g f [] = refl
  each_flat g f (x ∷ xs) = each_append g (f x) (flat f xs) ∙ ap (λ r. each g (f x) ++ r) (each_flat g f xs)

-- a function that changes none
pub each_self : {A : Type 0} (g : A → A) (xs : List A) → All (λ x. g x ≡ x) xs → each g xs ≡ xs
unfolding each
each_self g [] a = refl
each_self g (x ∷ xs) a = let ih = each_self g xs a.1 in rw (a.0, ih)
