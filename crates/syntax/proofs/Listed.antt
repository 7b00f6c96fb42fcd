-- No pattern that may be has more than 405 numbers, so no text reads as more.
use Rattle.std.proofs.Common.{◌≡◌, ℕ, ◌≤◌, true, ◌&&◌, ltb, leb, List, length, Ok, ap, arith}
use Rattle.std.proofs.lemmas.Bool.{and_parts, leb-true}
use Rattle.patterns.specs.Patterns.{Pattern}
use Rattle.patterns.specs.Limits.{some_steps, a_pattern}
use Rattle.arrayvec.specs.ArrayVec.{ArrayVec}
use Rattle.syntax.specs.Rows.{pattern_row}
use Rattle.syntax.specs.Reading.{reads}
use Rattle.syntax.specs.Readers.{Rowed}
use Rattle.syntax.proofs.Room.{steps_short}
use Rattle.syntax.proofs.Meaning.{rowed_as, meant_may_be}

pub pattern_short : (p : Pattern) → a_pattern p ≡ true → length (pattern_row p) ≤ 405
pattern_short p e =
    let both = and_parts (leb 1 (length p.steps) && leb (length p.steps) 6) (some_steps 0 p.steps && (ltb p.within 1099511627776 && ltb p.late 1099511627776)) e in
    let few = leb-true (length p.steps) 6 (and_parts (leb 1 (length p.steps)) (leb (length p.steps) 6) both.0).1 in
    let short = steps_short 0 p.steps (and_parts (some_steps 0 p.steps) (ltb p.within 1099511627776 && ltb p.late 1099511627776) both.1).0 in
    omega (arith, few, short)

pub row_short : (text : List ℕ) (row : ArrayVec ℕ) → Rowed (reads text) (Ok row) → length row.items ≤ 405
row_short text row h =
    let is = rowed_as (reads text) row h in
    omega (arith, ap length is.2, pattern_short is.0 (meant_may_be text is.0 is.1))
