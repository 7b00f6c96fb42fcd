use Rattle.rows.proofs.Newly.{ends_held}
use Rattle.rows.proofs.laws.ends_held.Goals as goal

pub returns : goal.returns
returns c = ends_held
