use Rattle.syntax.proofs.Meaning.{read_may_be}
use Rattle.syntax.proofs.laws.read_may_be.Goals as goal

pub returns : goal.returns
returns c = read_may_be
