use Rattle.std.proofs.Common.{◌∙◌, ap, not}
use Rattle.timeline.specs.Lists.{none_of}
use Rattle.patterns.specs.Kept.{kept_never}
use Rattle.patterns.proofs.Chains.{none_each}
use Rattle.patterns.proofs.kept.Kept.has_nevers.Goals as goal

pub returns : goal.returns
returns c =
    ap not (c.is_empty.ensures ∙ none_each (λ n. kept_never n 0) c.nevers.result.now ∙ ap none_of (c.nevers.ensures ∙ ap (λ s. s.never) c.step.ensures))
