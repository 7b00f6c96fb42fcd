use Rattle.std.proofs.Common.{length, take}
use Rattle.patterns.specs.Reading.{Part, IsRead}
use Rattle.patterns.proofs.Several.{Left}
use Rattle.patterns.proofs.reading.several.Given as goal

-- the parts that are left give the whole, whatever is read
abbrev pub invariant-loop-before : goal.invariant-loop-before
invariant-loop-before g l = (kind : Part g.row.T.Denot) → IsRead kind (goal.F-post g l.read) → Left kind (length l.fn.slots) l.row l.before l.left (take l.before l.slots)
