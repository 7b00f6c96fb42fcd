use Rattle.rows.proofs.Order.{sorted_right_proof}
use Rattle.rows.proofs.laws.sorted_right.Goals as goal

pub returns : goal.returns
returns c = sorted_right_proof
