use Rattle.listener.proofs.Telling.{told_all}
use Rattle.listener.proofs.promise.tells_all.Goals as goal

pub returns : goal.returns
returns c = told_all
