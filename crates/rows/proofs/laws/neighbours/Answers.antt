use Rattle.rows.proofs.Exchanged.{neighbours}
use Rattle.rows.proofs.laws.neighbours.Goals as goal

pub returns : goal.returns
returns c = neighbours
