use Rattle.std.proofs.Common.{refl}
use Rattle.patterns.proofs.reading.laid.Goals as goal

pub returns : goal.returns
returns g c = rw (c.copy_from_slice.ensures.after, c.copy_from_slice-2.ensures.after) refl
