use Rattle.timeline.proofs.Changing.{slots_say_all}
use Rattle.timeline.proofs.laws.slots_say_all.Goals as goal

pub returns : goal.returns
returns c = slots_say_all
