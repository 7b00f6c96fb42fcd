use Rattle.std.proofs.Common.{refl}
use Rattle.std.proofs.lemmas.Option.{MatchOption-at_some}
use Rattle.listener.proofs.Words.{ring_lent, ring_given}
use Rattle.listener.proofs.memory.hold.Goals as goal

pub returns : goal.returns
returns c =
    let m = c.args.memory.now in
    let span = c.span_of.ensures in
    let done = MatchOption-at_some _ _ c.unwrap.result c.unwrap.ensures c.put.ensures.cases in
    rw (ring_given m c.put.new.ring c.told-memory, done.after, ring_lent m c.told-memory, span.start, span.len) refl
