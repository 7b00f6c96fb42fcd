use Rattle.std.proofs.Common.{◌==◌, sym, ◌∙◌, rules, tests}
use Rattle.std.proofs.lemmas.Iterator.{YieldsList-from_slice}
use Rattle.std.proofs.lemmas.Iterator.Search.{position_from_yields_List}
use Rattle.std.proofs.lemmas.Iterator.Adapters.{position_from-zero}
use Rattle.syntax.proofs.rules.step_named.Goals as goal

pub returns : goal.returns
returns c =
    let b = c.args.letter in
    let xs = c.args.names.now in
    let at = position_from_yields_List (λ x. x == b) _ _ c.position.result c.position.ensures.ran (YieldsList-from_slice xs cc) (λ x r q k. search (rules, tests)) in
    sym c.in_ok-step.was ∙ at ∙ position_from-zero (λ x. x == b) xs

pub returns-in_err-step : goal.returns-in_err-step
returns-in_err-step c =
    let b = c.args.letter in
    let xs = c.args.names.now in
    let at = position_from_yields_List (λ x. x == b) _ _ c.position.result c.position.ensures.ran (YieldsList-from_slice xs cc) (λ x r q k. search (rules, tests)) in
    c.from_residual.ensures ∙ sym c.in_err-step.was ∙ at ∙ position_from-zero (λ x. x == b) xs
