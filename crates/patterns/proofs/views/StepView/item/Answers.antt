use Rattle.std.proofs.Common.{◌∙◌, ap}
use Rattle.patterns.specs.Kept.{kept_never}
use Rattle.patterns.proofs.Chunks.{front_never}
use Rattle.patterns.proofs.views.StepView.item.Goals as goal

pub returns : goal.returns
returns c =
    let s = rw c.unwrap-words.ensures at c.first_chunk.ensures.cases in
    ap (λ xs. kept_never xs 0) s.same ∙ front_never c.args.self.words.now
