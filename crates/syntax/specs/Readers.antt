-- A reader stands as the definition says, byte by byte.
-- Assumes nothing: these are definitions.
use Rattle.std.specs.Prelude.{◌≡◌, ℕ, ◌<◌, ◌≤◌, List, ◌++◌, length, drop, Some, None, Ok, Err, Result}
use Rattle.patterns.specs.Patterns.{Pattern}
use Rattle.syntax.specs.declared.readers.Reader.{Reader}
use Rattle.syntax.specs.declared.reading.Stop.{Stop}
use Rattle.syntax.specs.declared.reading.Refusal.{Refusal}
use Rattle.syntax.specs.declared.reading.Refusal.TheVariants.{At, Short}
use Rattle.syntax.specs.declared.expects.Expected.{Expected}
use Rattle.syntax.specs.Rows.{pattern_row}
use Rattle.arrayvec.specs.ArrayVec.{ArrayVec}
use Rattle.syntax.specs.Reading.{State, Reading, means, refused, settled, ready, next, wanted, ended}
use Rattle.syntax.specs.Sound.{Sound}
use Rattle.syntax.specs.Standing.{StandsFor}

-- a reader stands for a state
abbrev pub Stands : Reader → State → Type 0
Stands r s = StandsFor r.stand r.draft s

-- what a byte answers: whether a pattern may go on with it, or what could have stood there
abbrev pub Stepped : ℕ → State → Reader → Result (Unit {0}) Expected → Type 0
Stepped b s after (Ok u) = (t : State) × (next b (ready b s) ≡ Some t) × Stands after t × Sound t
Stepped b s after (Err e) = (next b (ready b s) ≡ None) × (e ≡ wanted (settled (ready b s)))

-- what the numbers of a reading are, wherever it is refused
abbrev pub Rowed : Reading → Result (ArrayVec ℕ) Stop → Type 0
Rowed (means p) (Ok row) = row.items ≡ pattern_row p
Rowed (means p) (Err s) = ⊥
Rowed (refused b e) r = r ≡ Err (record { at = b; expected = e })

-- what the end of a text answers, wherever it stands
abbrev pub Finished : State → Result (ArrayVec ℕ) Expected → Type 0
Finished s (Ok row) = (at : ℕ) → (p : Pattern) × (ended at (settled s) ≡ means p) × (row.items ≡ pattern_row p)
Finished s (Err e) = (at : ℕ) → ended at (settled s) ≡ refused at e

-- so many numbers in a lent row, and behind them what stood there
pub record Given (p : Pattern) (before after : List ℕ) (n : ℕ) : Type 0 where
  pub long : n ≡ length (pattern_row p)
  pub room : n ≤ length before
  pub row : after ≡ pattern_row p ++ drop n before

-- what giving a pattern's numbers in a lent row answers; a refusal leaves the row as it was
abbrev pub Gives : Pattern → List ℕ → List ℕ → Result ℕ Refusal → Type 0
Gives p before after (Ok n) = Given p before after n
Gives p before after (Err (At b e)) = ⊥
Gives p before after (Err (Short n)) = (n ≡ length (pattern_row p)) × (length before < n) × (after ≡ before)

-- what a reading answers
abbrev pub Answers : Reading → List ℕ → List ℕ → Result ℕ Refusal → Type 0
Answers (means p) before after r = Gives p before after r
Answers (refused b e) before after r = (r ≡ Err (At b e)) × (after ≡ before)
