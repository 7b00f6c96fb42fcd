-- A letter that is free: of more letters than there are names, one is no name.
use Rattle.std.proofs.Common.{◌≡◌, ℕ, zero, suc, ◌+◌, ◌<◌, ◌≤◌, Bool, true, false, cond, not, eqb, List, [], ◌∷◌, length, Some, None, Option, sym, refl, ◌∙◌, arith}
use Rattle.std.proofs.lemmas.Bool.{eqb-true}
use Rattle.std.proofs.lemmas.Option.{none-some}
use Rattle.std.proofs.lemmas.List.Sums.{length-filter, count_by-le-length}
use Rattle.std.specs.List.{filter}
use Rattle.syntax.specs.Names.{named_from}

-- the names other than a letter
abbrev others : ℕ → List ℕ → List ℕ
others c names = filter (λ x. not (eqb x c)) names

others_few : (c : ℕ) (names : List ℕ) → length (others c names) ≤ length names
others_few c names = let p : ℕ → Bool = λ x. not (eqb x c) in omega (arith, length-filter p names, count_by-le-length p names)

-- fewer, if the letter is a name
others_fewer : (c n i : ℕ) (names : List ℕ) → named_from n c names ≡ Some i → length (others c names) < length names
others_fewer c n i [] e = absurd (none-some _ e)
others_fewer c n i (x ∷ xs) e = by (eqb x c) e (others_fewer c (n + 1) i xs) (others_few c xs)
  where
    by : (t : Bool) → cond t (Some n) (named_from (n + 1) c xs) ≡ Some i → (named_from (n + 1) c xs ≡ Some i → length (others c xs) < length xs) → length (others c xs) ≤ length xs
        → length (cond (not t) (x ∷ others c xs) (others c xs)) < suc (length xs)
    by true h rec few = omega arith
    by false h rec few = omega (arith, rec h)

-- what is no name among the others is none at all
others_all : (c b n m : ℕ) (names : List ℕ) → (b ≡ c → ⊥) → named_from n b (others c names) ≡ None → named_from m b names ≡ None
others_all c b n m [] d e = refl
others_all c b n m (x ∷ xs) d e = by (eqb x c) refl (eqb x b) refl e (λ k. others_all c b k (m + 1) xs d)
  where
    by : (t : Bool) → eqb x c ≡ t → (u : Bool) → eqb x b ≡ u → named_from n b (cond (not t) (x ∷ others c xs) (others c xs)) ≡ None
        → ((k : ℕ) → named_from k b (others c xs) ≡ None → named_from (m + 1) b xs ≡ None) → cond u (Some m) (named_from (m + 1) b xs) ≡ None
    by true f true g h rec = absurd (d (sym (eqb-true x b g) ∙ eqb-true x c f))
    by true f false g h rec = rec n h
    by false f true g h rec = absurd (none-some _ (sym (rw g at h)))
    by false f false g h rec = rec (n + 1) (rw g at h)

pub record Free (c n : ℕ) (names : List ℕ) : Type 0 where
  pub letter : ℕ
  pub low : c ≤ letter
  pub high : letter < c + n
  pub new : named_from 0 letter names ≡ None

pub free : (n c : ℕ) (names : List ℕ) → length names < n → Free c n names
free zero c names l = absurd (omega arith)
free (suc n) c names l = by (named_from 0 c names) refl (free n (suc c) (others c names))
  where
    by : (o : Option ℕ) → named_from 0 c names ≡ o → (length (others c names) < n → Free (suc c) n (others c names)) → Free c (suc n) names
    by None e rec = record { letter = c; low = omega arith; high = omega arith; new = e }
    by (Some i) e rec =
        let f = rec (omega (arith, others_fewer c 0 i names e)) in
        record { letter = f.letter; low = omega (arith, f.low); high = omega (arith, f.high); new = others_all c f.letter 0 0 names (λ k. let l = f.low in absurd (omega arith)) f.new }
