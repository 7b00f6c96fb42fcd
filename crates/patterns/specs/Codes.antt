-- The numbers that fields and signs have in a pattern, and the test that a comparison is.
-- Assumes nothing: these are definitions.
use Rattle.std.specs.Prelude.{ℕ, ◌==◌, slice_get}
use Rattle.std.specs.Option.{option_to_list}
use Rattle.timeline.specs.Lists.{pick}
use Rattle.patterns.specs.Patterns.{Test}
use Rattle.patterns.specs.declared.comparing.Comparison.{Comparison}
use Rattle.patterns.specs.declared.fields.Field.{Field}
use Rattle.patterns.specs.declared.fields.Field.TheVariants.{Who, Value, Time}
use Rattle.patterns.specs.declared.fields.Sign.{Sign}
use Rattle.patterns.specs.declared.fields.Sign.TheVariants.{Equal, Below, NotBelow}

abbrev pub field_number : Field → ℕ
field_number Who = 0
field_number Value = 1
field_number Time = 2

-- any other number is the time, as in what a test means
abbrev pub field_numbered : ℕ → Field
field_numbered n = pick (n == 0) Who (pick (n == 1) Value Time)

abbrev pub sign_number : Sign → ℕ
sign_number Equal = 0
sign_number Below = 1
sign_number NotBelow = 2

-- any other number is not below
abbrev pub sign_numbered : ℕ → Sign
sign_numbered n = pick (n == 0) Equal (pick (n == 1) Below NotBelow)

abbrev pub test_of : Comparison → Test
test_of c = record { what = field_number c.what; sign = sign_number c.sign; step = option_to_list c.step; other = c.other }

-- the other way: any numbers are a test
abbrev pub comparison : Test → Comparison
comparison t = record { what = field_numbered t.what; sign = sign_numbered t.sign; step = slice_get t.step 0; other = t.other }
