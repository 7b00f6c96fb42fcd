use Rattle.rows.proofs.Known.{known_stays_proof}
use Rattle.rows.proofs.laws.known_stays.Goals as goal

pub returns : goal.returns
returns c = known_stays_proof
