use Rattle.std.proofs.Common.{ap, ◌∙◌}
use Rattle.patterns.specs.Kept.{kept_step}
use Rattle.rows.specs.Held.{level_step}
use Rattle.rows.proofs.Pruning.{kept_kind_not}
use Rattle.rows.proofs.levels.Search.next_candidate.Goals as goal

pub returns-clause-passed : goal.returns-clause-passed
returns-clause-passed c =
    let words = c.args.self.now.kept.words.now in
    λ i l k.
    kept_kind_not c.args.self.now.held words c.args.choice.now.at c.args.choice.now.depth i c.kind_of-kind.result c.requires.few
    (c.kind_of-kind.ensures ∙ ap (λ s. (kept_step words s).kind) (c.level_step.ensures ∙ ap (λ n. level_step n c.args.choice.now.depth) c.steps.ensures))
    (c.next_of_kind.ensures.passed i l k)
