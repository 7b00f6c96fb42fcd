use Rattle.std.proofs.Common.{refl, ◌∙◌}
use Rattle.std.proofs.lemmas.Option.{MatchOption-at_some}
use Rattle.listener.proofs.Words.{ring_lent}
use Rattle.listener.proofs.turns.next_in.Goals as goal

pub returns : goal.returns
returns c =
    let parts = (MatchOption-at_some _ _ c.unwrap.result c.unwrap.ensures c.parts.ensures.cases).list in
    c.next_row.ensures ∙ rw (parts, ring_lent c.args.memory.now c.told-memory, c.span_of.ensures.start, c.span_of.ensures.len, c.pattern_in.ensures) refl
