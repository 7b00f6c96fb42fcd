-- The answer of `place` from what is left of the row: the time looked at last, how many are not above so far, and the rest.
use Rattle.std.proofs.Common.{◌≡◌, ℕ, ◌+◌, ◌<◌, ◌≤◌, true, false, ltb, leb, List, [], ◌∷◌, Result, Ok, Err, refl, ap, arith}
use Rattle.std.proofs.lemmas.Bool.Decides.{nat_tests}
use Rattle.timeline.specs.Lists.{pick}
use Rattle.timeline.specs.Places.{place_of, not_above, rising}
use Rattle.timeline.specs.declared.places.NotRising.{NotRising}

abbrev pub left : ℕ → ℕ → ℕ → List ℕ → Result ℕ NotRising
left t last n xs = pick (rising (last ∷ xs)) (Ok (n + not_above t xs)) (Err (record {}))

pub place_start : (t : ℕ) (xs : List ℕ) → place_of t xs ≡ left t 0 0 xs
unfolding place_of rising not_above
place_start t [] = refl
place_start t (x ∷ xs) = let h : leb 0 x ≡ true = grind (arith, nat_tests) in rw h (ap (λ (n : ℕ). pick (rising (x ∷ xs)) (Ok n) (Err (record {}))) (omega arith))

pub place_falls : (t last n x : ℕ) (xs : List ℕ) → x < last → left t last n (x ∷ xs) ≡ Err (record {})
unfolding rising
place_falls t last n x xs h = let no : leb last x ≡ false = grind (arith, nat_tests) in rw no

pub place_not_above : (t last n x : ℕ) (xs : List ℕ) → last ≤ x → x ≤ t → left t last n (x ∷ xs) ≡ left t x (n + 1) xs
unfolding rising not_above
place_not_above t last n x xs h k =
    let yes : leb last x ≡ true = grind (arith, nat_tests) in
    let no : ltb t x ≡ false = grind (arith, nat_tests) in
    rw yes (rw no (ap (λ (m : ℕ). pick (rising (x ∷ xs)) (Ok m) (Err (record {}))) (omega arith)))

pub place_above : (t last n x : ℕ) (xs : List ℕ) → last ≤ x → t < x → left t last n (x ∷ xs) ≡ left t x n xs
unfolding rising not_above
place_above t last n x xs h k =
    let yes : leb last x ≡ true = grind (arith, nat_tests) in
    let above : ltb t x ≡ true = grind (arith, nat_tests) in
    rw yes (rw above (ap (λ (m : ℕ). pick (rising (x ∷ xs)) (Ok m) (Err (record {}))) (omega arith)))

pub place_end : (t last n : ℕ) → left t last n [] ≡ Ok n
unfolding rising not_above
place_end t last n = ap Ok (omega arith)
