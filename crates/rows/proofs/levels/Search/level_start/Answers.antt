use Rattle.std.proofs.Common.{◌∙◌, arith, ◌≡◌, length, rules}
use Rattle.timeline.specs.Order.{nth}
use Rattle.rows.proofs.Unbroken.{starts_unbroken}
use Rattle.rows.proofs.levels.Search.level_start.Goals as goal

pub returns-in-Some : goal.returns-in-Some
returns-in-Some c =
    let at : length c.args.choice.now.at ≡ 6 = search rules in
    let h = c.args.self.now.held in
    let r = c.last_of_kind.result in
    let s = starts_unbroken h _ _ _ at c.requires.few (λ z. omega (arith, c.requires.below)) (c.if-depth-steps.false ∙ c.steps.ensures)
    c.first_place-first.result r (c.first_place-first.ensures.bounds, c.first_place-first.ensures.passed) c.last_of_kind.ensures.bounds.0 c.last_of_kind.ensures.bounds.1
    (λ q.
    let g = c.last_of_kind.ensures.found q in
    (g.0, λ es. c.in-Some.ensures.needed es (nth h r) g.1)) in
    record { bounds = s.0; passed = s.1 }
