use Rattle.std.proofs.Common.{Bool, ℕ, List, refl, ◌∙◌, ap, rules}
use borrow.Author.Tests.{tests}
use Rattle.std.proofs.lemmas.Iterator.{YieldsList-from_slice}
use Rattle.std.proofs.lemmas.Iterator.Search.{any_from_yields_List}
use Rattle.timeline.specs.Lists.{any}
use Rattle.patterns.specs.Patterns.{Never, fits_step}
use Rattle.patterns.specs.Kept.{kept_never}
use Rattle.patterns.proofs.Chains.{any_some}
use Rattle.patterns.proofs.kept.Kept.hit.Goals as goal

pub returns : goal.returns
returns c =
    let forbids : Never → Bool = λ n. fits_step c.args.earlier.now c.args.e n.kind n.tests in
    let test : List ℕ → Bool = λ ws. forbids (kept_never ws 0) in
    any_from_yields_List test _ _ _ c.any.ensures.ran (YieldsList-from_slice c.nevers.result.now cc) (λ x b q k. search (rules, tests))
    ∙ any_some forbids (λ n. kept_never n 0) test (λ ws. refl) c.nevers.result.now
    ∙ ap (any forbids) (c.nevers.ensures ∙ ap (λ s. s.never) c.step.ensures)
