use Rattle.std.proofs.Common.{ap}
use Rattle.timeline.specs.Lists.{each, flat}
use Rattle.syntax.proofs.drafts.Draft.new.Goals as goal

pub returns : goal.returns
unfolding each flat
returns c =
    record {
      steps = c.new.ensures;
      names = c.new-2.ensures;
      nevers = ap (each (λ v. v.items)) c.new-3.ensures;
      tests = c.new-4.ensures;
    }
