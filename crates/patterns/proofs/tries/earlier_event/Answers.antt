use Rattle.std.proofs.Common.{◌∙◌, sym, arith}
use Rattle.timeline.specs.Order.{nothing}
use Rattle.patterns.proofs.Chains.{nth_or}
use Rattle.patterns.proofs.tries.earlier_event.Goals as goal

pub returns : goal.returns
returns c = rw (c.unwrap_or.ensures, c.copied.ensures) (c.get.ensures.lookup.4 (omega arith) nothing ∙ sym (nth_or c.args.earlier.now c.args.step))
