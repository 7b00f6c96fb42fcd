use Rattle.std.proofs.Common.{ℕ, Bool, List, ◌∙◌, ap, rules}
use borrow.Author.Tests.{tests}
use Rattle.std.proofs.lemmas.Iterator.{YieldsList-from_slice}
use Rattle.std.proofs.lemmas.Iterator.Search.{all_from_yields_List}
use Rattle.timeline.specs.Lists.{every}
use Rattle.patterns.specs.Patterns.{holds}
use Rattle.patterns.specs.Codes.{test_of, comparison}
use Rattle.patterns.specs.Kept.{kept_test}
use Rattle.patterns.proofs.Chains.{all_every, holds_same, kind_then}
use Rattle.patterns.proofs.views.Item.fits.Goals as goal

pub returns-then-e-kind : goal.returns-then-e-kind
returns-then-e-kind c =
    let es = c.args.earlier.now in
    let e = c.args.e in
    let test : List ℕ → Bool = λ ws. holds es e (test_of (comparison (kept_test ws 0))) in
    all_from_yields_List test _ _ _ c.all.ensures.ran (YieldsList-from_slice c.tests.result.now cc) (λ x b q k. search (rules, tests))
    ∙ all_every (holds es e) (λ t. kept_test t 0) test (λ ws. holds_same es e (kept_test ws 0)) c.tests.result.now
    ∙ ap (every (holds es e)) c.tests.ensures
    ∙ kind_then es e _ _ (c.if-e-kind.true ∙ c.kind.ensures)
