use Rattle.std.proofs.Common.{◌≡◌, vec_items}
use Rattle.timeline.specs.Order.{latest}
use Rattle.patterns.specs.Patterns.{Pattern}
use Rattle.rows.proofs.Counting.{GoesTo}
use Rattle.rows.proofs.lateness.counted.Given as goal

abbrev pub invariant-loop-i : goal.invariant-loop-i
invariant-loop-i l =
    (l.latest ≡ latest (vec_items l.counted)) × ((p : Pattern) → p.late ≡ l.late → GoesTo l.events l.i (vec_items l.counted) p)
