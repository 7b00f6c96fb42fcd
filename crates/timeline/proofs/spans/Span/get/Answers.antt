use Rattle.std.proofs.Common.{◌*◌, [], get_or, ap, ◌∙◌, arith}
use Rattle.timeline.specs.Ring.{event_at}
use Rattle.timeline.proofs.Chunks.{chunk_event}
use Rattle.timeline.proofs.spans.Span.get.Goals as goal

pub returns : goal.returns
returns c =
    c.from.ensures
    ∙ ap (λ t. event_at (get_or t c.slot_behind.result []) 0) c.as_chunks.ensures.front
    ∙ chunk_event _ c.slot_behind.result c.args.ring.now [] (omega arith)
    ∙ ap (λ t. event_at c.args.ring.now (t * 5)) c.slot_behind.ensures
