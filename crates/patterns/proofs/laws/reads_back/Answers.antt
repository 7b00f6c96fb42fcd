use Rattle.patterns.proofs.Back as back
use Rattle.patterns.proofs.laws.reads_back.Goals as goal

pub returns : goal.returns
returns c = back.reads_back
