use Rattle.listener.proofs.Whole.{whole_proof}
use Rattle.listener.proofs.promise.keeps_its_promise.Goals as goal

pub returns : goal.returns
returns c = whole_proof
