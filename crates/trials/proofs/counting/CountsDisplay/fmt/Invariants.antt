use Rattle.std.proofs.Common.{take}
use Rattle.std.specs.Fmt.{HasWritten, IsPlainFormatter}
use Rattle.trials.specs.Written.{after_spaces}
use Rattle.trials.proofs.counting.CountsDisplay.fmt.Given as goal

-- the counts that were passed are written
abbrev pub invariant-loop-count : goal.invariant-loop-count
invariant-loop-count g l =
    IsPlainFormatter l.initial.f → HasWritten g.W.Write.write_str_gives l.initial.f (after_spaces (take l.count-index l.self.counts)) l.f
