use Rattle.std.proofs.Common.{◌≡◌, ◌∙◌, ap, arith, length, drop, rules}
use Rattle.std.proofs.lemmas.List.{take_all, length-drop}
use Rattle.timeline.specs.Lists.{each}
use Rattle.patterns.specs.Kept.{kept_never}
use Rattle.patterns.proofs.Chunks.{counted_nevers}
use Rattle.patterns.proofs.views.StepView.nevers.Goals as goal

pub returns : goal.returns
returns c =
    let words = c.args.self.words.now in
    let long : length words ≡ 67 = search rules in
    ap (each (λ n. kept_never n 0)) c.counted.ensures ∙ counted_nevers words _ 22 (take_all 45 (drop 22 words) (omega (arith, length-drop 22 words)))
