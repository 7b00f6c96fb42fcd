use Rattle.rows.proofs.Sorted.{sorted_rises}
use Rattle.rows.proofs.laws.sorted_rises.Goals as goal

pub returns : goal.returns
returns c = sorted_rises
