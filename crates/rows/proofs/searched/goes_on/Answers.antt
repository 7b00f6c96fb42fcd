use Rattle.rows.proofs.Resuming.{goes_on_proof}
use Rattle.rows.proofs.searched.goes_on.Goals as goal

pub returns : goal.returns
returns c = goes_on_proof
