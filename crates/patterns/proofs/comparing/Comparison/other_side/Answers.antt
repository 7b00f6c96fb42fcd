use Rattle.std.proofs.Common.{ap, ◌∙◌}
use Rattle.patterns.specs.Patterns.{field, other_side}
use Rattle.patterns.proofs.comparing.Comparison.other_side.Goals as goal

pub returns-in-Some : goal.returns-in-Some
unfolding other_side
returns-in-Some c = rw c.in-Some.is (c.of.ensures ∙ c.from.ensures.means c.earlier_event.result ∙ ap (λ e. field e c.args.self.other) c.earlier_event.ensures)

pub returns-in-None : goal.returns-in-None
unfolding other_side
returns-in-None c = rw c.in-None.is
