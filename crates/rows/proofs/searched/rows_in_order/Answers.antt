use Rattle.rows.proofs.AllFound.{rows_in_order_proof}
use Rattle.rows.proofs.searched.rows_in_order.Goals as goal

pub returns : goal.returns
returns c = rows_in_order_proof
