use Rattle.rows.proofs.Rows.{told_once_proof}
use Rattle.rows.proofs.laws.told_once.Goals as goal

pub returns : goal.returns
returns c = told_once_proof
