-- The letters that are written, as the reader looks them up.
use Rattle.std.proofs.Common.{◌≡◌, ℕ, zero, suc, ◌+◌, ◌<◌, ◌≤◌, true, false, eqb, [], ◌∷◌, ◌++◌, length, Some, None, refl, ap, ◌∙◌, arith}
use Rattle.std.proofs.lemmas.Bool.{eq-eqb, ne_eqb}
use Rattle.std.proofs.lemmas.Bool.Decides.{nat_tests}
use Rattle.timeline.specs.Lists.{run}
use Rattle.syntax.specs.Words.{white, digit, letter}
use Rattle.syntax.specs.Names.{named_from}

-- a letter is no digit and is not white
pub record Lettered (b : ℕ) : Type 0 where
  pub digit : digit b ≡ false
  pub white : white b ≡ false
  pub letter : letter b ≡ true

pub lettered : (b : ℕ) → 97 ≤ b → b ≤ 122 → Lettered b
lettered b l m = record { digit = grind (arith, nat_tests); white = grind (arith, nat_tests); letter = grind (arith, nat_tests) }

pub lettered_by : (b : ℕ) → letter b ≡ true → Lettered b
lettered_by b e = record { digit = grind (arith, nat_tests); white = grind (arith, nat_tests); letter = e }

pub found : (k c m i : ℕ) → i < m → named_from k (c + i) (run c m) ≡ Some (k + i)
unfolding run
found k c zero i l = absurd (omega arith)
found k c (suc m) zero l = let e : eqb c (c + 0) ≡ true = eq-eqb _ _ (omega arith) in let f : k + 0 ≡ k = omega arith in rw (e, f)
found k c (suc m) (suc i) l =
    let e : eqb c (c + suc i) ≡ false = ne_eqb _ _ (omega arith) in
    let f : c + suc i ≡ suc c + i = omega arith in
    let g : k + 1 + i ≡ k + suc i = omega arith in
    rw e (ap (λ b. named_from (k + 1) b (run (suc c) m)) f ∙ found (k + 1) (suc c) m i (omega arith) ∙ ap Some g)

pub not_found : (k c m b : ℕ) → c + m ≤ b → named_from k b (run c m) ≡ None
unfolding run
not_found k c zero b l = refl
not_found k c (suc m) b l = let e : eqb c b ≡ false = ne_eqb _ _ (omega arith) in rw e (not_found (k + 1) (suc c) m b (omega arith))

pub run_push : (c m : ℕ) → run c m ++ ((c + m) ∷ []) ≡ run c (suc m)
unfolding run
run_push c zero = let e : c + 0 ≡ c = omega arith in rw e
run_push c (suc m) = let e : c + suc m ≡ suc c + m = omega arith in rw e (ap (λ xs. c ∷ xs) (run_push (suc c) m))

pub length_run : (c m : ℕ) → length (run c m) ≡ m
unfolding run
length_run c zero = refl
length_run c (suc m) = ap suc (length_run (suc c) m)
