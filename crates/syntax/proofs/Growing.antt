-- Rows of numbers that grow with what they hold.
use Rattle.std.proofs.Common.{◌≡◌, ℕ, suc, List, [], ◌∷◌, ◌++◌, length, sym, ap, refl, ◌∙◌, append_assoc, append-nil}
use Rattle.std.specs.List.{flat_map}
use Rattle.timeline.specs.Lists.{each, flat}
use Rattle.patterns.specs.Patterns.{Test, Never, Step}
use Rattle.patterns.specs.Kept.{test_cells}
use Rattle.syntax.specs.Rows.{never_row, step_row}

pub flat_push : {A : Type 0} (f : A → List ℕ) (xs : List A) (x : A) → flat f (xs ++ (x ∷ [])) ≡ flat f xs ++ f x
unfolding flat
flat_push f [] x = append-nil (f x)
flat_push f (y ∷ ys) x = ap (λ zs. f y ++ zs) (flat_push f ys x) ∙ sym (append_assoc (f y) (flat f ys) (f x))

pub length_each : {A B : Type 0} (f : A → B) (xs : List A) → length (each f xs) ≡ length xs
unfolding each
length_each f [] = refl
length_each f (x ∷ xs) = ap suc (length_each f xs)

-- what a slice of arrays is as one slice
pub flattened : {A : Type 0} (f : A → List ℕ) (xs : List A) → flat_map (λ x. x) (each f xs) ≡ flat f xs
unfolding each flat
flattened f [] = refl
flattened f (x ∷ xs) = ap (λ zs. f x ++ zs) (flattened f xs)

-- what rows one behind the other are, if they hold parts
pub rows_flat : {A B : Type 0} (rows : A → List ℕ) (f : B → List ℕ) (vs : List A) (xs : List B) → each rows vs ≡ each f xs → flat_map rows vs ≡ flat f xs
unfolding each
rows_flat rows f vs xs e = one vs ∙ ap (flat_map (λ x. x)) e ∙ flattened f xs
  where
    one : (us : List _) → flat_map rows us ≡ flat_map (λ x. x) (each rows us)
    one [] = refl
    one (u ∷ us) = ap (λ zs. rows u ++ zs) (one us)

pub step_grows : (ss : List Step) (k : ℕ) (ts : List Test) (vs : List Never)
    → (((flat step_row ss ++ (k ∷ length ts ∷ [])) ++ flat test_cells ts) ++ (length vs ∷ [])) ++ flat never_row vs ≡ flat step_row (ss ++ (record { kind = k; tests = ts; never = vs } ∷ []))
step_grows ss k ts vs = simp append_assoc (sym (flat_push step_row ss (record { kind = k; tests = ts; never = vs })))
