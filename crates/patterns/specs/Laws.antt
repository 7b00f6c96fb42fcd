-- What holds of the words of every pattern that may be.
-- Assumes nothing: these are statements.
use Rattle.std.specs.Prelude.{◌≡◌, true, length, nat_lt}
use Rattle.timeline.specs.Lists.{every}
use Rattle.patterns.specs.Patterns.{Pattern}
use Rattle.patterns.specs.Limits.{a_pattern}
use Rattle.patterns.specs.Kept.{pattern_cells, kept_pattern}

-- they mean that pattern, so that two patterns never have the same words
abbrev pub ReadsBack : Type 0
ReadsBack = (p : Pattern) → a_pattern p ≡ true → kept_pattern (pattern_cells p) ≡ p

-- they are 405, each below 2^64
abbrev pub FitsWords : Type 0
FitsWords = (p : Pattern) → a_pattern p ≡ true → (length (pattern_cells p) ≡ 405) × (every (λ m. nat_lt m 18446744073709551616) (pattern_cells p) ≡ true)
