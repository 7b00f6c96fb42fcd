use Rattle.syntax.specs.Laws.{TypedReadsBack}
use Rattle.syntax.proofs.Back.{pattern_back}
use Rattle.syntax.proofs.TypedWhole.{typed_means}
use Rattle.syntax.proofs.laws.typed_reads_back.Goals as goal

pub returns : goal.returns
unfolding TypedReadsBack
returns c = λ p e. (typed_means p e, pattern_back p e)
