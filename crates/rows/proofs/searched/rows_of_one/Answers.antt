use Rattle.rows.proofs.OneLast.{rows_of_one_proof}
use Rattle.rows.proofs.searched.rows_of_one.Goals as goal

pub returns : goal.returns
returns c = rows_of_one_proof
