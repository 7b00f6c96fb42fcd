-- Lines, byte by byte: what is left gives the whole.
use Rattle.std.proofs.Common.{◌≡◌, ℕ, zero, suc, ◌+◌, ◌<◌, ◌≤◌, true, false, not, eqb, List, length, get_or, drop, refl, ap, ◌∙◌, arith, inl, inr, sym}
use Rattle.std.specs.List.{position, position_or_len}
use Rattle.std.specs.Option.{unwrap_or}
use Rattle.std.proofs.lemmas.Grind.{common_steps}
use Rattle.std.proofs.lemmas.List.Sums.{prefix_len-le-length}
use Rattle.std.proofs.Math.Nat.{le-suc_iff}
use Rattle.std.proofs.lemmas.List.{at_drop_more, at_drop_all}
use Rattle.std.proofs.lemmas.List.Recursion.{is_position_or_len}
use Rattle.timeline.specs.Lists.{pick}
use Rattle.syntax.specs.Words.{white}
use Rattle.files.specs.declared.lines.Line.{Line}
use Rattle.files.specs.Lines.{line_past, line_behind, line_rest, without_white}

pub line_next : (l : Line) (bytes : List ℕ) (i : ℕ) → i < length bytes →
    line_behind l i (drop i bytes) ≡ line_behind (line_past l i (get_or bytes i 0)) (i + 1) (drop (i + 1) bytes)
unfolding line_behind
line_next l bytes i h = at_drop_more (line_behind l i) bytes i 0 h

pub line_over : (l : Line) (bytes : List ℕ) (i : ℕ) → length bytes ≤ i → line_behind l i (drop i bytes) ≡ l
unfolding line_behind
line_over l bytes i h = at_drop_all (line_behind l i) bytes i h

-- where the first line feed stands, in std's words, or how many bytes there are where there is none
pub rest_is : (bytes : List ℕ) → unwrap_or (position (λ b. eqb b 10) bytes) (length bytes) ≡ line_rest bytes
unfolding line_rest
rest_is bytes =
    let e : line_rest bytes ≡ position_or_len (λ b. eqb b 10) bytes = is_position_or_len line_rest (λ b. eqb b 10) refl (λ b bs. refl) bytes in
    grind (arith, common_steps, prefix_len-le-length (λ b. not (eqb b 10)) bytes, e)

-- where all bytes from the m-th on are white
pub white_behind : (bytes : List ℕ) (m n : ℕ) → m ≤ n → ((k : ℕ) → m ≤ k → k < n → white (get_or bytes k 0) ≡ true) → without_white bytes n ≡ without_white bytes m
unfolding without_white
white_behind bytes zero zero le h = refl
white_behind bytes (suc m) zero le h = absurd (omega arith)
white_behind bytes m (suc n) le h =
    elim (le-suc_iff.0 le) [
      | inl lt ↦ ap (λ b. pick b (without_white bytes n) (suc n)) (h n lt (omega arith)) ∙ white_behind bytes m n lt (λ k a b. h k a (omega arith))
      | inr e ↦ ap (without_white bytes) (sym e)
    ]

-- where the last byte is not white
pub white_stop : (bytes : List ℕ) (n : ℕ) → white (get_or bytes n 0) ≡ false → without_white bytes (suc n) ≡ suc n
unfolding without_white
white_stop bytes n t = ap (λ b. pick b (without_white bytes n) (suc n)) t

pub white_none : (bytes : List ℕ) → without_white bytes 0 ≡ 0
unfolding without_white
white_none bytes = refl
