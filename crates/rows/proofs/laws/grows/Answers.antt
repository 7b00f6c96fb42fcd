use Rattle.rows.proofs.Order.{grows_proof}
use Rattle.rows.proofs.laws.grows.Goals as goal

pub returns : goal.returns
returns c = grows_proof
