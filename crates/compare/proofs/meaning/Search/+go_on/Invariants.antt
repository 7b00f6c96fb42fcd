-- Each call has one step less to go.
use Rattle.std.proofs.Common.{length}
use Rattle.compare.proofs.meaning.Search.+go_on.Given as goal

abbrev pub decreases-go_on : goal.decreases-go_on
decreases-go_on l = length l.steps.now
