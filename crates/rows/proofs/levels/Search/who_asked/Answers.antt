use Rattle.std.proofs.Common.{refl, ◌∙◌, ◌≡◌, length, rules}
use Rattle.timeline.specs.Order.{nth}
use Rattle.rows.proofs.OtherWho.{own_not, last_not}
use Rattle.rows.proofs.levels.Search.who_asked.Goals as goal

pub returns-in-Some : goal.returns-in-Some
returns-in-Some c =
    let at : length c.args.choice.now.at ≡ 6 = search rules in
    let row : length c.args.choice.now.row ≡ 6 = search rules in
    λ i t l.
    own_not _ _ _ _ _ at row c.requires.few
    c.if-depth-eq0.false c.requires.along i (c.in-Some.ensures.needed (nth c.args.self.now.held i) t)

pub returns : goal.returns
returns c =
    let at : length c.args.choice.now.at ≡ 6 = search rules in
    let row : length c.args.choice.now.row ≡ 6 = search rules in
    λ i t l.
    last_not _ _ _ _ _ at row c.requires.few
    c.if-depth-eq0.false c.requires.along i (c.if-depth-steps.false ∙ c.steps.ensures) (c.if-not-asks_same_who.ensures.needed refl) t
