use Rattle.std.proofs.Common.{rules}
use Rattle.patterns.specs.Kept.{test_cells}
use Rattle.patterns.proofs.comparing.ArrayU64TESTWORDSFromComparison.from.Goals as goal

pub returns-in-Some : goal.returns-in-Some
unfolding test_cells
returns-in-Some c = search rules

pub returns-in-None : goal.returns-in-None
unfolding test_cells
returns-in-None c = search rules
