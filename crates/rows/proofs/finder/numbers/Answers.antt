use Rattle.std.proofs.Common.{rules}
use Rattle.std.proofs.iter.runs.Made.{chains}
use Rattle.timeline.specs.declared.events.Event.{Event}
use Rattle.rows.proofs.Eaches.{each_is}
use Rattle.rows.proofs.finder.numbers.Goals as goal

pub returns : goal.returns
returns c = rw (each_is (λ (e : Event). e.heard) c.args.row.now) (search (rules, chains))
