use Rattle.timeline.proofs.Changing.{puts_held}
use Rattle.timeline.proofs.laws.puts_held.Goals as goal

pub returns : goal.returns
returns c = puts_held
