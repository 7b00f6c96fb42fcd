use Rattle.listener.proofs.Telling.{full_exactly}
use Rattle.listener.proofs.promise.full_exactly.Goals as goal

pub returns : goal.returns
returns c = full_exactly
