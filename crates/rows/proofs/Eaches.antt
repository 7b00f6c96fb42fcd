-- A function of each element: by place.
use Rattle.std.proofs.Common.{◌≡◌, ℕ, ◌+◌, ◌<◌, ◌≤◌, List, [], ◌∷◌, ◌++◌, map, length, get_or, take, sym, refl, ap, ◌∙◌}
use Rattle.std.proofs.lemmas.List.{take_more, take_all, get_or-map}
use Rattle.timeline.specs.declared.events.Event.{Event}
use Rattle.timeline.specs.Lists.{each}
use Rattle.timeline.specs.Order.{nothing, nth}
use Rattle.timeline.proofs.Each.{each_append}
use Rattle.timeline.proofs.Order.{nth_is}

pub each_is : {A B : Type 0} (f : A → B) (xs : List A) → each f xs ≡ map f xs
unfolding each
each_is f [] = refl
each_is {B = B} f (x ∷ xs) = ap {B = List B} (λ ys. f x ∷ ys) (each_is f xs)

module _ {A B : Type 0} (f : A → B) (xs : List A) where
  -- one element more
  pub each_more : (i : ℕ) (x d : A) → i < length xs → x ≡ get_or xs i d → each f (take i xs) ++ f x ∷ [] ≡ each f (take (i + 1) xs)
  unfolding each
  each_more i x d l e =
      sym (ap (each f) (take_more xs i d l ∙ ap (λ y. take i xs ++ y ∷ []) (sym e)) ∙ each_append f (take i xs) (x ∷ []))

  pub each_over : (i : ℕ) → length xs ≤ i → each f (take i xs) ≡ each f xs
  each_over i l = ap (each f) (take_all i xs l)

-- the event at a place of what a function gives of each
pub at_each : {A : Type 0} (f : A → Event) (xs : List A) (k : ℕ) (d : A) → k < length xs → nth (each f xs) k ≡ f (get_or xs k d)
at_each f xs k d l = nth_is (each f xs) k ∙ ap (λ es. get_or es k nothing) (each_is f xs) ∙ get_or-map f xs k d nothing l
