use Rattle.std.proofs.Common.{◌≡◌, ◌+◌, [], length, sym, ap, ◌∙◌, arith}
use Rattle.timeline.specs.Order.{nth}
use Rattle.rows.proofs.Decoded.{length_parts, in_front, in_back}
use Rattle.rows.proofs.held.Held.get.Goals as goal

pub returns-then-p-n : goal.returns-then-p-n
returns-then-p-n c = c.from.ensures ∙ in_front _ _ _ [] c.if-p-n.true ∙ ap (λ h. nth h c.args.p) c.self.view_is

pub returns-else-p-n : goal.returns-else-p-n
returns-else-p-n c =
    let n : length c.args.self.now ≡ length c.self.inside.front.now + length c.self.inside.back.now =
    sym (ap length c.self.view_is) ∙ length_parts c.self.inside.front.now c.self.inside.back.now in
    c.from-else-p-n.ensures ∙ in_back _ _ _ [] c.if-p-n.false (omega (arith, c.requires)) ∙ ap (λ h. nth h c.args.p) c.self.view_is
