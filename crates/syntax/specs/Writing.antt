-- What writing a pattern answers.
-- Assumes nothing: these are definitions.
use Rattle.std.specs.Prelude.{◌≡◌, ℕ, true, false, List, Ok, Err, string_bytes, Result, String}
use Rattle.std.specs.declared.alloc.Global.{Global}
use Rattle.patterns.specs.Limits.{a_pattern}
use Rattle.patterns.specs.Numbers.{pattern_in}
use Rattle.syntax.specs.declared.writing.Unwritten.{Unwritten}
use Rattle.syntax.specs.declared.writing.Unwritten.TheVariants.{NoPattern, NoMemory}
use Rattle.syntax.specs.Typed.{typed}

-- what writing a row answers: the text of the pattern that it says, if that may be
abbrev pub Writes : List ℕ → Result (String Global) Unwritten → Type 0
Writes row (Ok text) = (a_pattern (pattern_in row) ≡ true) × (string_bytes text ≡ typed (pattern_in row))
Writes row (Err NoPattern) = a_pattern (pattern_in row) ≡ false
Writes row (Err NoMemory) = a_pattern (pattern_in row) ≡ true
