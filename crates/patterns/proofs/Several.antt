-- Parts of a row, one behind the other: those that are read and those that are left are all.
use Rattle.std.proofs.Common.{◌≡◌, ℕ, suc, ◌+◌, ◌-◌, ◌<◌, ◌≤◌, true, false, List, [], ◌∷◌, ◌++◌, append_assoc, append-nil, sym, refl, ◌∙◌, add-one, arith}
use Rattle.patterns.specs.Reading.{Part, all_may, all_parts, behind_all}

module _ {T : Type 0} (kind : Part T) (many : ℕ) (row : List ℕ) where
  -- with i parts read, those that are left give the same as all from the start
  abbrev pub Left : ℕ → List ℕ → List T → Type 0
  Left i left parts =
      (all_may kind i (many - i) left ≡ all_may kind 0 many row)
      × (parts ++ all_parts kind (many - i) left ≡ all_parts kind many row)
      × (behind_all kind (many - i) left ≡ behind_all kind many row)

  module _ (i : ℕ) (left : List ℕ) (parts : List T) (h : Left i left parts) where
    pub left_one : (p : T) (rest : List ℕ) → i < many → kind.may i left ≡ true → p ≡ kind.part left → rest ≡ kind.behind left → Left (i + 1) rest (parts ++ p ∷ [])
    unfolding all_may all_parts behind_all
    left_one p rest l m e r =
        let n : many - i ≡ suc (many - suc i) = omega arith in
        let g = rw n at h in
        let may = rw m at g.0 in
        rw (e, r, add-one i) (may, append_assoc parts (kind.part left ∷ []) (all_parts kind (many - suc i) (kind.behind left)) ∙ g.1, g.2)

    pub left_fail : i < many → kind.may i left ≡ false → all_may kind 0 many row ≡ false
    unfolding all_may
    left_fail l m = let n : many - i ≡ suc (many - (i + 1)) = omega arith in sym h.0 ∙ rw (n, m) refl

    pub left_done : many ≤ i → (all_may kind 0 many row ≡ true) × (parts ≡ all_parts kind many row) × (left ≡ behind_all kind many row)
    unfolding all_may all_parts behind_all
    left_done l = let n : many - i ≡ 0 = omega arith in let g = rw n at h in (sym g.0, sym (append-nil parts) ∙ g.1, g.2)
