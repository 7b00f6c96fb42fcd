use Rattle.std.proofs.Common.{Bool, ℕ, ◌∙◌, arith, rules}
use borrow.Author.Tests.{tests}
use Rattle.std.proofs.lemmas.Iterator.{YieldsList-from_range}
use Rattle.std.proofs.lemmas.Iterator.Search.{any_from_yields_List}
use Rattle.patterns.specs.Named.{step_names}
use Rattle.patterns.specs.Kept.{kept_step}
use Rattle.patterns.proofs.Chains.{any_run}
use Rattle.patterns.proofs.Steps.{steps_named}
use Rattle.patterns.proofs.kept.Kept.is_named.Goals as goal

pub returns : goal.returns
returns c =
    let words = c.args.self.words.now in
    let test : ℕ → Bool = λ s. step_names c.args.kind (kept_step words s) in
    any_from_yields_List test _ _ _ c.any.ensures.ran (YieldsList-from_range 0 c.steps.result c.steps.result (cc) (omega arith)) (λ x b q k. search (rules, tests))
    ∙ any_run (step_names c.args.kind) (kept_step words) 0 c.steps.result
    ∙ steps_named words c.args.kind c.steps.result c.steps.ensures
