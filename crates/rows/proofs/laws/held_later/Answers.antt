use Rattle.rows.proofs.Newly.{held_later}
use Rattle.rows.proofs.laws.held_later.Goals as goal

pub returns : goal.returns
returns c = held_later
