use Rattle.std.proofs.Common.{◌≡◌, ℕ, false, eqb, Some, Option, ◌∙◌, sym, ap, subst}
use Rattle.std.specs.Option.{IfSome}
use Rattle.timeline.specs.declared.events.Event.{Event}
use Rattle.patterns.specs.Patterns.{fits_step}
use Rattle.patterns.specs.Kept.{kept_step}
use Rattle.patterns.specs.Asked.{first_of, of_who}
use Rattle.patterns.proofs.Asking.{asked_none, asked_some, asked_needed}
use Rattle.patterns.proofs.kept.Kept.who_asked.Goals as goal

pub returns : goal.returns
returns c =
    let es = c.args.earlier.now in
    let step = kept_step c.args.self.words.now c.args.step in
    let value = ap Some c.other_side.ensures ∙ asked_some es (first_of of_who step.tests) c.in_ok-test.test (sym c.in_ok-test.was ∙ c.who_test.ensures) in
    record { value = value; needed = subst (λ (o : Option ℕ). IfSome o (λ w. (e : Event) → eqb e.who w ≡ false → fits_step es e step.kind step.tests ≡ false)) (sym value) (asked_needed es step.kind step.tests) }

pub returns-in_err-test-clause-value : goal.returns-in_err-test-clause-value
returns-in_err-test-clause-value c =
    rw c.from_residual.ensures (asked_none c.args.earlier.now (first_of of_who (kept_step c.args.self.words.now c.args.step).tests) (sym c.in_err-test.was ∙ c.who_test.ensures))
