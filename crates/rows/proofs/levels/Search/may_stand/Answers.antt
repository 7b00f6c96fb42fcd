use Rattle.std.proofs.Common.{◌-◌, eqb, sym, ap, ◌∙◌, ap₂, arith}
use Rattle.patterns.specs.Kept.{kept_step}
use Rattle.patterns.proofs.Steps.{steps_six}
use Rattle.rows.proofs.LevelOk.{ok_one, ok_last, ok_not, ok_mid, ok_end}
use Rattle.rows.proofs.levels.Search.may_stand.Goals as goal

pub returns-then-steps-eq1 : goal.returns-then-steps-eq1
returns-then-steps-eq1 c =
    c.fits_at.ensures
    ∙ sym (ok_one _ _ _ _ c.if-depth-eq0.true
    (sym c.steps-steps.ensures ∙ c.if-steps-eq1.true))

pub returns-then-depth-eq0 : goal.returns-then-depth-eq0
returns-then-depth-eq0 c =
    let n = c.steps-steps.ensures in
    ap₂ eqb (ap (λ e. e.kind) (c.requires.along.are 0 (omega arith))) (c.kind_of.ensures ∙ ap (λ k. (kept_step c.args.self.now.kept.words.now (k - 1)).kind) n)
    ∙ sym (ok_last _ _ _ _ c.if-depth-eq0.true
    (omega (arith, c.requires.few)) (λ e. c.if-steps-eq1.false (n ∙ e)))

pub returns-then-not-fits_at : goal.returns-then-not-fits_at
returns-then-not-fits_at c =
    ok_not _ _ _ _ c.if-depth-eq0.false c.requires.few
    (omega (arith, steps_six c.args.self.now.kept.words.now, c.requires.few)) c.if-not-fits_at.ensures

pub returns-then-depth-steps : goal.returns-then-depth-steps
returns-then-depth-steps c =
    ok_mid _ _ _ _ c.if-depth-eq0.false c.requires.few
    (omega (arith, steps_six c.args.self.now.kept.words.now, c.requires.few)) c.if-not-fits_at.ensures (λ e. c.if-depth-steps.true (e ∙ sym c.steps-steps.ensures))

pub returns : goal.returns
returns c =
    c.fits_at-3.ensures
    ∙ ok_end _ _ _ _ c.if-depth-eq0.false c.requires.few
    (omega (arith, steps_six c.args.self.now.kept.words.now, c.requires.few)) c.if-not-fits_at.ensures (c.if-depth-steps.false ∙ c.steps-steps.ensures)
