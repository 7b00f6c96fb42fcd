use Rattle.rows.proofs.Rows.{no_row_twice}
use Rattle.rows.proofs.laws.no_row_twice.Goals as goal

pub returns : goal.returns
returns c = no_row_twice
