use Rattle.std.proofs.Common.{take}
use Rattle.std.specs.List.{flat_map}
use Rattle.std.specs.Fmt.{HasWritten, IsPlainFormatter}
use Rattle.files.specs.Text.{after_space}
use Rattle.files.proofs.text.SpacedDisplay.fmt.Given as goal

-- the numbers that were passed are written
abbrev pub invariant-loop-n : goal.invariant-loop-n
invariant-loop-n g l =
    IsPlainFormatter l.initial.f → HasWritten g.W.Write.write_str_gives l.initial.f (flat_map after_space (take l.n-index l.others)) l.f
