use Rattle.std.proofs.Common.{◌≡◌, ◌∙◌, ap, arith, length, drop, rules}
use Rattle.std.proofs.lemmas.List.{take_all, length-drop}
use Rattle.timeline.specs.Lists.{each}
use Rattle.patterns.specs.Kept.{kept_test}
use Rattle.patterns.proofs.Chunks.{counted_tests}
use Rattle.patterns.proofs.views.Item.tests.Goals as goal

pub returns : goal.returns
returns c =
    let words = c.args.self.words.now in
    let long : length words ≡ 22 = search rules in
    ap (each (λ t. kept_test t 0)) c.counted.ensures ∙ counted_tests words _ 1 (take_all 21 (drop 1 words) (omega (arith, length-drop 1 words)))
