use Rattle.listener.proofs.Telling.{holds_just}
use Rattle.listener.proofs.promise.holds_just.Goals as goal

pub returns : goal.returns
returns c = holds_just
