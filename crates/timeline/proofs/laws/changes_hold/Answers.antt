use Rattle.timeline.proofs.Changing.{changes_hold}
use Rattle.timeline.proofs.laws.changes_hold.Goals as goal

pub returns : goal.returns
returns c = changes_hold
