use Rattle.listener.proofs.Telling.{told_what_is_known}
use Rattle.listener.proofs.promise.tells_what_is_known.Goals as goal

pub returns : goal.returns
returns c = told_what_is_known
