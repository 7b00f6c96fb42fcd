use Rattle.rows.proofs.Renumbered.{renumbered_rows}
use Rattle.rows.proofs.laws.renumbered_rows.Goals as goal

pub returns : goal.returns
returns c = renumbered_rows
