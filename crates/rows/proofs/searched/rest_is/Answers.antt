use Rattle.rows.proofs.AllFound.{rest_is_proof}
use Rattle.rows.proofs.searched.rest_is.Goals as goal

pub returns : goal.returns
returns c = rest_is_proof
