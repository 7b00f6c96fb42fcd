use Rattle.std.proofs.Common.{◌≡◌, drop}
use Rattle.syntax.specs.Reading.{State, runs, reads}
use Rattle.syntax.specs.Sound.{Sound}
use Rattle.syntax.specs.Readers.{Stands}
use Rattle.syntax.proofs.reading.row_of.Given as goal

-- the bytes that are left give the whole
abbrev pub invariant-loop-at : goal.invariant-loop-at
invariant-loop-at l = (s : State) × Stands l.reader s × Sound s × (runs l.at-counter s (drop l.at-counter l.text) ≡ reads l.text)
