use Rattle.rows.proofs.Newly.{newly_held}
use Rattle.rows.proofs.laws.newly_held.Goals as goal

pub returns : goal.returns
returns c = newly_held
