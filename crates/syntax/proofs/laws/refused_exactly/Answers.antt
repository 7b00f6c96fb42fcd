use Rattle.syntax.proofs.Stopping.{refused_exactly}
use Rattle.syntax.proofs.laws.refused_exactly.Goals as goal

pub returns : goal.returns
returns c = refused_exactly
