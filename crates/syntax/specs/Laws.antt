-- Laws of typed patterns, as statements that the functions of laws.rt prove.
-- Assumes nothing: these are definitions.
use Rattle.std.specs.Prelude.{◌≡◌, ℕ, ◌+◌, ◌<◌, ◌≤◌, true, List, ◌++◌, length, take, ◌≢◌}
use Rattle.patterns.specs.Patterns.{Pattern}
use Rattle.patterns.specs.Limits.{a_pattern}
use Rattle.patterns.specs.Numbers.{pattern_in}
use Rattle.syntax.specs.declared.expects.Expected.{Expected}
use Rattle.syntax.specs.Rows.{pattern_row}
use Rattle.syntax.specs.Reading.{means, refused, reads}
use Rattle.syntax.specs.Typed.{typed}

-- what a text reads as is a pattern that may be, and the numbers that are given say it
unfoldable pub ReadMayBe : Type 0
ReadMayBe = (text : List ℕ) (p : Pattern) → reads text ≡ means p → (a_pattern p ≡ true) × (pattern_in (pattern_row p) ≡ p)

-- every pattern that may be is read from its own text as itself
unfoldable pub TypedReadsBack : Type 0
TypedReadsBack = (p : Pattern) → a_pattern p ≡ true → (reads (typed p) ≡ means p) × (pattern_in (pattern_row p) ≡ p)

-- what stands in front of a byte can be continued to a pattern, and with that byte it cannot; at the end of a text no byte stands
pub record Stops (text : List ℕ) (at : ℕ) : Type 0 where
  pub within : at ≤ length text
  pub before : (more : List ℕ) × (p : Pattern) × (reads (take at text ++ more) ≡ means p)
  pub after : at < length text → (more : List ℕ) (p : Pattern) → reads (take (at + 1) text ++ more) ≢ means p

-- a text is refused at the first byte with which no pattern can go on
unfoldable pub RefusedExactly : Type 0
RefusedExactly = (text : List ℕ) (at : ℕ) (e : Expected) → reads text ≡ refused at e → Stops text at
