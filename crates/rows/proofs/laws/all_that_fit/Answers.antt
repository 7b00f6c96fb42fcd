use Rattle.rows.proofs.AllFit.{all_that_fit}
use Rattle.rows.proofs.laws.all_that_fit.Goals as goal

pub returns : goal.returns
returns c = all_that_fit
