use Rattle.std.proofs.Common.{◌≡◌, ◌+◌, ◌-◌}
use Rattle.patterns.specs.Kept.{kept_step}
use Rattle.rows.proofs.Nevers.{broken}
use Rattle.rows.proofs.levels.Search.is_broken.Given as goal

-- those looked at so far are not forbidden
abbrev pub invariant-loop-i : goal.invariant-loop-i
invariant-loop-i l =
    broken l.self.held l.earlier (kept_step l.self.kept.words.now l.step) l.i l.b
    ≡ broken l.self.held l.earlier (kept_step l.self.kept.words.now l.step) (l.a + 1) l.b

abbrev pub decreases-loop-i : goal.decreases-loop-i
decreases-loop-i l = l.b - l.i
