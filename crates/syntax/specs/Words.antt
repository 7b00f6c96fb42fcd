-- The bytes of a typed pattern: which are white, digits and letters, and how words are spelled.
-- Assumes nothing: these are definitions.
use Rattle.std.specs.Prelude.{ℕ, Bool, ◌&&◌, List, Some, None, codes, Option, ◌==◌, nat_le}
use Rattle.timeline.specs.Lists.{pick, or}
use Rattle.patterns.specs.declared.fields.Field.{Field}
use Rattle.patterns.specs.declared.fields.Field.TheVariants.{Who, Value, Time}
use Rattle.syntax.specs.declared.words.Word.{Word}
use Rattle.syntax.specs.declared.words.Word.TheVariants.{Not, Where, And, Within, Late, Of, AtLeast}

-- a space, a tab, a line feed, a carriage return
abbrev pub white : ℕ → Bool
white b = or (b == 32) (or (b == 9) (or (b == 10) (b == 13)))

abbrev pub digit : ℕ → Bool
digit b = nat_le 48 b && nat_le b 57

-- a name: a small letter
abbrev pub letter : ℕ → Bool
letter b = nat_le 97 b && nat_le b 122

abbrev pub spelling : Word → List ℕ
spelling Not = codes "not"
spelling Where = codes "where"
spelling And = codes "and"
spelling Within = codes "within"
spelling Late = codes "late"
spelling (Of Who) = codes "who"
spelling (Of Value) = codes "value"
spelling (Of Time) = codes "time"
spelling AtLeast = codes ">="

-- the field whose word begins with a byte
abbrev pub field_begun : ℕ → Option Field
field_begun b = pick (b == 119) (Some Who) (pick (b == 118) (Some Value) (pick (b == 116) (Some Time) None))
