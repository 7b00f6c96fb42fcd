use Rattle.std.proofs.Common.{rules, ◌≡◌, eqb, length, ap, ◌∙◌}
use borrow.Author.Tests.{tests}
use Rattle.std.specs.List.{position}
use Rattle.std.specs.Option.{unwrap_or}
use Rattle.std.proofs.lemmas.Iterator.{YieldsList-from_slice}
use Rattle.std.proofs.lemmas.Iterator.Search.{position_from_yields_List}
use Rattle.files.proofs.ByByte.{rest_is}
use Rattle.files.proofs.lines.line_rest.Goals as goal

pub returns-clause-value : goal.returns-clause-value
returns-clause-value c =
    let bytes = c.args.bytes.now in
    let found : c.position-found.result ≡ position (λ b. eqb b 10) bytes =
    position_from_yields_List (λ b. eqb b 10) _ _ _ c.position-found.ensures.ran (YieldsList-from_slice bytes cc) (λ x b q k. search (rules, tests)) in
    c.unwrap_or.ensures ∙ ap (λ o. unwrap_or o (length bytes)) found ∙ rest_is bytes
