use Rattle.std.proofs.Common.{refl}
use Rattle.std.proofs.lemmas.Option.{MatchOption-at_some}
use Rattle.listener.proofs.Words.{ring_lent, ring_given}
use Rattle.listener.proofs.memory.forget_stale.Goals as goal

pub returns-clause-after : goal.returns-clause-after
returns-clause-after c =
    let m = c.args.memory.now in
    let done = MatchOption-at_some _ _ c.unwrap.result c.unwrap.ensures c.forget.ensures.cases in
    rw (ring_given m c.forget.new.ring c.told-memory, done.after, ring_lent m c.told-memory, c.span_of.ensures.start) refl
