use Rattle.timeline.proofs.Changing.{puts_sort}
use Rattle.timeline.proofs.laws.puts_sort.Goals as goal

pub returns : goal.returns
returns c = puts_sort
