use Rattle.rows.proofs.Newly.{never_stale}
use Rattle.rows.proofs.laws.never_stale.Goals as goal

pub returns : goal.returns
returns c = never_stale
