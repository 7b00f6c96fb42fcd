use Rattle.rows.proofs.Enough.{held_enough_proof}
use Rattle.rows.proofs.laws.held_enough.Goals as goal

pub returns : goal.returns
returns c = held_enough_proof
