use Rattle.std.proofs.Common.{◌≡◌, ◌+◌, ◌-◌, length, take, drop, sym, ap, ◌∙◌, arith}
use Rattle.std.proofs.lemmas.List.{length-take, length-drop}
use Rattle.timeline.specs.Order.{nth}
use Rattle.rows.proofs.Decoded.{length_parts, part_front, part_back}
use Rattle.rows.proofs.held.Held.between.Goals as goal

pub returns-clause-front : goal.returns-clause-front
returns-clause-front c = λ i l.
    part_front _ _ _ _ c.min.result c.min-2.result i c.min.ensures c.min-2.ensures l
    ∙ ap (λ h. nth h (c.args.from + i)) c.self.view_is

pub returns-clause-back : goal.returns-clause-back
returns-clause-back c = λ i l.
    let front = c.self.inside.front.now in
    let back = c.self.inside.back.now in
    let n : length c.args.self.now ≡ length front + length back = sym (ap length c.self.view_is) ∙ length_parts front back in
    let m = length (take (c.min-2.result - c.min.result) (drop c.min.result front)) in
    part_back front back c.args.from c.args.end c.max.result c.max-2.result i m
    (omega (arith, length-take (c.min-2.result - c.min.result) (drop c.min.result front), length-drop c.min.result front, c.min.ensures, c.min-2.ensures)) c.max.ensures c.max-2.ensures c.requires.order
    (omega (arith, c.requires.inside)) l
    ∙ ap (λ h. nth h (c.args.from + m + i)) c.self.view_is
