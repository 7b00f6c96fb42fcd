use Rattle.std.proofs.Common.{◌+◌, ◌-◌, not, leb, get_or, take, drop, sym, ap, ◌∙◌, rules, arith}
use Rattle.timeline.specs.Order.{nothing}
use Rattle.patterns.proofs.Steps.{steps_six}
use Rattle.rows.proofs.Tried.{tried_not, tried_first, tried_late, tried_else}
use Rattle.rows.proofs.levels.Search.fits_at.Goals as goal

pub returns-then-not-fits : goal.returns-then-not-fits
returns-then-not-fits c =
    tried_not _ _ _ _ _ _ _ _ (search rules) (search rules) c.requires.along c.requires.here c.requires.before (omega (arith, steps_six c.args.self.now.kept.words.now, c.requires.few))
    (sym c.if-not-fits.ensures)

pub returns-then-step-eq0 : goal.returns-then-step-eq0
returns-then-step-eq0 c =
    tried_first _ _ _ _ _ _ _ _ (search rules) (search rules) c.requires.along c.requires.here c.requires.before (omega (arith, steps_six c.args.self.now.kept.words.now, c.requires.few))
    (sym c.if-not-fits.ensures) c.if-step-eq0.true

pub returns-then-not-is_within : goal.returns-then-not-is_within
returns-then-not-is_within c =
    tried_late _ _ _ _ _ _ _ _ (search rules) (search rules) c.requires.along c.requires.here c.requires.before (omega (arith, steps_six c.args.self.now.kept.words.now, c.requires.few))
    (sym c.if-not-fits.ensures) c.if-step-eq0.false
    (sym (c.if-not-is_within.ensures ∙ ap (λ n. leb (get_or c.args.choice.now.row c.args.depth nothing).time ((get_or (take (c.args.step + 1 - 1) (drop 1 c.args.choice.now.row)) 0 nothing).time + n)) c.within.ensures))

pub returns : goal.returns
returns c =
    ap not c.is_broken.ensures
    ∙ tried_else _ _ _ _ _ _ _ _ (search rules) (search rules) c.requires.along c.requires.here c.requires.before (omega (arith, steps_six c.args.self.now.kept.words.now, c.requires.few))
    (sym c.if-not-fits.ensures) c.if-step-eq0.false
    (sym (c.if-not-is_within.ensures ∙ ap (λ n. leb (get_or c.args.choice.now.row c.args.depth nothing).time ((get_or (take (c.args.step + 1 - 1) (drop 1 c.args.choice.now.row)) 0 nothing).time + n)) c.within.ensures))
