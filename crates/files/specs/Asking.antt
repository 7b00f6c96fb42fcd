-- What the words of a command line say, and which of them are left.
-- Assumes nothing: these are definitions.
use Rattle.std.specs.Prelude.{◌≡◌, ◌≢◌, ◌⊎◌, List, [], ◌∷◌, Some, None, Option, String, string_bytes}
use Rattle.std.specs.Global.{Global}
use Rattle.files.specs.declared.asking.PatternSource.{PatternSource}
use Rattle.files.specs.declared.asking.PatternAndEvents.{PatternAndEvents}
use Rattle.files.specs.declared.asking.PatternSource.TheVariants.{Numbers, TextFile, Text}

-- `-t`
abbrev pub IsFileFlag : String Global → Type 0
IsFileFlag w = string_bytes w ≡ 45 ∷ 116 ∷ []

-- `-e`
abbrev pub IsTextFlag : String Global → Type 0
IsTextFlag w = string_bytes w ≡ 45 ∷ 101 ∷ []

-- no words, or a flag alone
abbrev pub NoSource : List (String Global) → Type 0
NoSource [] = Unit {0}
NoSource (w ∷ ws) = (ws ≡ []) × (IsFileFlag w ⊎ IsTextFlag w)

-- the pattern that the first words name, and the words behind them
abbrev pub SaysSource : List (String Global) → Option PatternSource → List (String Global) → Type 0
SaysSource words None rest = NoSource words
SaysSource words (Some (Numbers path)) rest =
    (words ≡ path ∷ rest) × (string_bytes path ≢ 45 ∷ 116 ∷ []) × (string_bytes path ≢ 45 ∷ 101 ∷ [])
SaysSource words (Some (TextFile path)) rest = (w : String Global) × (words ≡ w ∷ path ∷ rest) × IsFileFlag w
SaysSource words (Some (Text text)) rest = (w : String Global) × (words ≡ w ∷ text ∷ rest) × IsTextFlag w

-- the same and the path of a file of events behind it; where there is none, the words behind the pattern are too few
abbrev pub SaysBoth : List (String Global) → Option PatternAndEvents → List (String Global) → Type 0
SaysBoth words None rest =
    NoSource words ⊎ ((pattern : PatternSource) × SaysSource words (Some pattern) [])
SaysBoth words (Some both) rest = SaysSource words (Some both.pattern) (both.events ∷ rest)
