-- What reading a text into a `Vec` of its own answers.
-- Assumes nothing: these are definitions.
use Rattle.std.specs.Prelude.{◌≡◌, ℕ, Ok, Err, vec_items, Result}
use Rattle.std.specs.Global.{Vec}
use Rattle.syntax.specs.declared.listing.Unread.{Unread}
use Rattle.syntax.specs.declared.listing.Unread.TheVariants.{At, NoMemory}
use Rattle.syntax.specs.Rows.{pattern_row}
use Rattle.syntax.specs.Reading.{Reading, means, refused}

-- all numbers of the pattern; want of memory is said only of a text that has one
abbrev pub Listed : Reading → Result (Vec ℕ) Unread → Type 0
Listed (means p) (Ok v) = vec_items v ≡ pattern_row p
Listed (means p) (Err (At b e)) = ⊥
Listed (means p) (Err NoMemory) = Unit {0}
Listed (refused b e) r = r ≡ Err (At b e)
