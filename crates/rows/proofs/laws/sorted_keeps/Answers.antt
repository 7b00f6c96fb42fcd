use Rattle.rows.proofs.Sorted.{sorted_keeps}
use Rattle.rows.proofs.laws.sorted_keeps.Goals as goal

pub returns : goal.returns
returns c = sorted_keeps
