use Rattle.std.proofs.Common.{◌∙◌, ap}
use Rattle.timeline.specs.Lists.{none_of}
use Rattle.patterns.specs.Kept.{kept_test}
use Rattle.patterns.proofs.Chains.{none_each}
use Rattle.patterns.proofs.views.Item.is_free.Goals as goal

pub returns : goal.returns
returns c = c.is_empty.ensures ∙ none_each (λ t. kept_test t 0) c.tests.result.now ∙ ap none_of c.tests.ensures
