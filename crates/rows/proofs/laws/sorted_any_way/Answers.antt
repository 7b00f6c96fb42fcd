use Rattle.rows.proofs.Sorted.{sorted_any_way}
use Rattle.rows.proofs.laws.sorted_any_way.Goals as goal

pub returns : goal.returns
returns c = sorted_any_way
