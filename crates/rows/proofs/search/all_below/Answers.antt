use Rattle.std.proofs.Common.{ltb, take, ◌∙◌, rules, tests, arith}
use Rattle.std.proofs.lemmas.Iterator.{YieldsList-from_slice}
use Rattle.std.proofs.lemmas.Iterator.Search.{all_from_yields_List}
use Rattle.rows.proofs.Chosen.{every_taken}
use Rattle.rows.proofs.search.all_below.Goals as goal

pub returns : goal.returns
returns c =
    all_from_yields_List (λ p. ltb p c.args.bound) _ _ c.all.result c.all.ensures.ran (YieldsList-from_slice (take c.args.many c.args.at) c.iter.ensures.rest) (λ x b q k. search (rules, tests))
    ∙ every_taken (λ p. ltb p c.args.bound) c.args.at c.args.many 0 (omega arith)
