use Rattle.std.proofs.Common.{◌+◌, leb, get_or, sym, refl, ap, ◌∙◌, ap₂, arith}
use Rattle.timeline.specs.Order.{nothing, nth}
use Rattle.patterns.specs.Kept.{kept_pattern}
use Rattle.patterns.proofs.Steps.{steps_long}
use Rattle.rows.proofs.Pruning.{starts_first, starts_next}
use Rattle.rows.proofs.levels.Search.first_place.Goals as goal

pub returns-then-choice-eq1 : goal.returns-then-choice-eq1
returns-then-choice-eq1 c =
    let h = c.args.self.now.held in
    let s = starts_first h (kept_pattern c.args.self.now.kept.words.now) c.args.choice.now.at c.args.choice.now.depth c.first_in_reach.result c.if-choice-eq1.true
    (omega (arith, c.requires.few, steps_long c.args.self.now.kept.words.now)) c.first_in_reach.ensures.bounds
    (λ i l.
    ap₂ (λ t w. leb t ((nth h i).time + w)) (sym (ap (λ e. e.time) c.requires.last)) (sym c.within.ensures) ∙ c.first_in_reach.ensures.passed i l) in
    record {
      bounds = s.0;
      passed = s.1;
      reach = λ _ l. ap (λ w. leb (get_or c.args.choice.now.row 0 nothing).time ((nth h c.first_in_reach.result).time + w)) (sym c.within.ensures) ∙ c.first_in_reach.ensures.stops l;
      behind = λ l. absurd (omega (arith, l, c.if-choice-eq1.true));
    }

pub returns : goal.returns
returns c =
    let s = starts_next c.args.self.now.held (kept_pattern c.args.self.now.kept.words.now) c.args.choice.now.at c.args.choice.now.depth
    (let n = c.if-choice-eq1.false in omega (arith, c.requires.below)) (c.requires.order (let n = c.if-choice-eq1.false in omega (arith, c.requires.below))) in
    record { bounds = s.0; passed = s.1; reach = λ e _. absurd (c.if-choice-eq1.false e); behind = λ _. refl }
