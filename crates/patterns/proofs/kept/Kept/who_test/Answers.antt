use Rattle.std.proofs.Common.{◌∙◌, ap, sym, rules}
use borrow.Author.Tests.{tests}
use Rattle.std.proofs.lemmas.Iterator.{YieldsList-from_slice, YieldsList-from_map}
use Rattle.std.proofs.lemmas.Iterator.Consumers.{YieldsList-at}
use Rattle.std.proofs.lemmas.Iterator.Search.{find_from_yields_List}
use Rattle.std.proofs.lemmas.Iterator.Adapters.{option_map_id}
use Rattle.patterns.specs.Codes.{test_of, comparison}
use Rattle.patterns.specs.Kept.{kept_test}
use Rattle.patterns.specs.Asked.{first_of, of_some, of_who}
use Rattle.patterns.proofs.Chains.{find_who}
use Rattle.patterns.proofs.kept.Kept.who_test.Goals as goal

pub returns : goal.returns
returns c =
    sym (option_map_id c.find.result)
    ∙ find_from_yields_List (λ t. of_who (test_of t)) _ _ c.find.result c.find.ensures.ran
    (YieldsList-from_map _ (λ ws. comparison (kept_test ws 0)) (YieldsList-at c.map.ensures.source (YieldsList-from_slice c.tests.result.now cc)) c.map.ensures.closure (λ x r q k. search rules))
    (λ x b q k. search (rules, tests))
    ∙ find_who c.tests.result.now
    ∙ ap (λ ts. of_some comparison (first_of of_who ts)) (c.tests.ensures ∙ ap (λ v. v.tests) c.item.ensures ∙ ap (λ s. s.tests) c.step.ensures)
