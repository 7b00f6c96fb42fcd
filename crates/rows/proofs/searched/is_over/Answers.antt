use Rattle.rows.proofs.Resuming.{is_over_proof}
use Rattle.rows.proofs.searched.is_over.Goals as goal

pub returns : goal.returns
returns c = is_over_proof
