use Rattle.std.proofs.Common.{◌++◌, map, ◌∙◌, ap₂}
use Rattle.rows.specs.Parts.{event_of}
use Rattle.rows.proofs.Decoded.{decode_is}
use Rattle.rows.proofs.held.Held.over.Goals as goal

pub returns : goal.returns
returns c =
    ap₂ (λ a b. map event_of a ++ map event_of b) c.as_chunks.ensures.front c.as_chunks-2.ensures.front
    ∙ ap₂ (λ a b. a ++ b) (decode_is c.args.front.now) (decode_is c.args.back.now)
