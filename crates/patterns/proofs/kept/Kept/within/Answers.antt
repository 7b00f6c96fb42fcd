use Rattle.std.proofs.Common.{refl}
use Rattle.patterns.specs.Kept.{kept_pattern}
use Rattle.patterns.proofs.kept.Kept.within.Goals as goal

pub returns : goal.returns
unfolding kept_pattern
returns c = refl
