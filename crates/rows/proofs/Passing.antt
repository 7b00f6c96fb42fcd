-- Tests of a list, element by element: what is left answers as the whole does.
use Rattle.std.proofs.Common.{◌≡◌, ℕ, ◌+◌, ◌<◌, ◌≤◌, min, Bool, true, false, ◌||◌, eqb, leb, List, [], ◌∷◌, ◌++◌, length, get_or, drop, sym, refl, ap, ◌∙◌, append_assoc, append-nil, arith}
use Rattle.std.proofs.lemmas.List.{drop_more, drop_all}
use Rattle.std.proofs.lemmas.Bool.{ne_eqb}
use Rattle.std.proofs.lemmas.Bool.Decides.{nat_tests}
use Rattle.std.specs.List.{list_any}
use Rattle.timeline.specs.Lists.{or, any, none_of, each, those}

pub none_of_is : {A : Type 0} (xs : List A) → none_of xs ≡ eqb (length xs) 0
unfolding none_of
none_of_is [] = refl
none_of_is (x ∷ xs) = sym (ne_eqb (length (x ∷ xs)) 0 (λ e. omega arith))

or_is : (a b : Bool) → a || b ≡ or a b
or_is true b = refl
or_is false b = refl

-- whether one of a list passes, in our words and the library's
pub any_is : {A : Type 0} (f : A → Bool) (xs : List A) → list_any f xs ≡ any f xs
unfolding any
any_is f [] = refl
any_is f (x ∷ xs) = ap (λ b. f x || b) (any_is f xs) ∙ or_is (f x) (any f xs)

-- a bound that stops at the most there can be, of a number that is below it
pub window_end : (t f w end : ℕ) → t < 18446744073709551616 → end ≡ min (f + w) 18446744073709551615 → leb t end ≡ leb t (f + w)
window_end t f w end l e = grind (arith, nat_tests)

-- a function of each of those that pass, from a place on, put behind others
module _ {A B : Type 0} (f : A → Bool) (g : A → B) (xs : List A) (i : ℕ) (done : List B) where
  abbrev pub rest_put : List B
  rest_put = done ++ each g (those f (drop i xs))

  pub put_taken : (d : A) → i < length xs → f (get_or xs i d) ≡ true → (done ++ g (get_or xs i d) ∷ []) ++ each g (those f (drop (i + 1) xs)) ≡ rest_put
  unfolding each those
  put_taken d l t =
      append_assoc done (g (get_or xs i d) ∷ []) (each g (those f (drop (i + 1) xs)))
      ∙ sym (ap (λ ys. done ++ each g (those f ys)) (drop_more xs i d l) ∙ rw t refl)

  pub put_passed : (d : A) → i < length xs → f (get_or xs i d) ≡ false → done ++ each g (those f (drop (i + 1) xs)) ≡ rest_put
  unfolding each those
  put_passed d l t = sym (ap (λ ys. done ++ each g (those f ys)) (drop_more xs i d l) ∙ rw t refl)

  pub put_over : length xs ≤ i → done ≡ rest_put
  unfolding each those
  put_over l = sym (ap (λ ys. done ++ each g (those f ys)) (drop_all i xs l) ∙ append-nil done)
