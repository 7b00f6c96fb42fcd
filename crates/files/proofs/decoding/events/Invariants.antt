use Rattle.std.proofs.Common.{length, vec_items}
use Rattle.files.proofs.Chunks.{Read}
use Rattle.files.proofs.decoding.events.Given as goal

abbrev pub invariant-loop-i : goal.invariant-loop-i
invariant-loop-i l = Read l.whole l.i (length l.left) (vec_items l.events)
