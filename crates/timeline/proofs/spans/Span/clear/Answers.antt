use Rattle.std.proofs.Common.{arith, rules}
use Rattle.timeline.proofs.Cells.{cleared_zero, cleared_other}
use Rattle.timeline.proofs.spans.Span.clear.Goals as goal

pub returns-clause-zeros : goal.returns-clause-zeros
returns-clause-zeros c =
    let at = c.numbers.ensures in
    cleared_zero c.args.ring.now _ _ c.args.self.start c.args.self.len _ _ _ _ (omega arith) (omega arith) (omega arith)
    at.front_start at.front_end at.back_start at.back_end (search rules) (search rules)

pub returns-clause-others : goal.returns-clause-others
returns-clause-others c =
    let at = c.numbers.ensures in
    cleared_other c.args.ring.now _ _ c.args.self.start c.args.self.len _ _ _ _ (omega arith) (omega arith) (omega arith)
    at.front_start at.front_end at.back_start at.back_end (search rules) (search rules)
