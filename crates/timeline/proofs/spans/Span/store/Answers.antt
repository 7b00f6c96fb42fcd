use Rattle.std.proofs.Common.{◌+◌, arith, rules}
use Rattle.timeline.proofs.Cells.{slot_past, apart}
use Rattle.timeline.proofs.spans.Span.store.Goals as goal

pub returns-clause-others : goal.returns-clause-others
returns-clause-others c =
    let s = c.args.self.start in
    let n = c.slot_behind-n.result in
    λ k l ne. slot_past c.args.ring.now _ n _ (s + k) (search rules) (omega arith) (omega arith) (λ q. apart s c.args.i k (omega arith) l ne (omega arith))
