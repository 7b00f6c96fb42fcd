use Rattle.std.proofs.Common.{◌≡◌, ◌+◌, ◌≤◌, true, false, sym, refl, ◌∙◌, subst, arith}
use Rattle.timeline.specs.declared.events.Event.{Event}
use Rattle.timeline.specs.Order.{nth}
use Rattle.patterns.specs.Kept.{kept_step}
use Rattle.rows.specs.Finding.{forbidden}
use Rattle.rows.proofs.Nevers.{broken_past, broken_here, broken_over, broken_none, broken_to}
use Rattle.rows.proofs.levels.Search.is_broken.Goals as goal

pub returns-then-not-has_nevers : goal.returns-then-not-has_nevers
returns-then-not-has_nevers c =
    sym (broken_none c.args.self.now.held c.args.earlier.now (kept_step c.args.self.now.kept.words.now c.args.step) _ c.args.b
    (sym c.if-not-has_nevers.ensures))

pub returns-then-a-b : goal.returns-then-a-b
returns-then-a-b c =
    let over : c.args.b ≤ c.args.a + 1 = omega (arith, c.if-a-b.true) in
    sym (broken_over c.args.self.now.held c.args.earlier.now (kept_step c.args.self.now.kept.words.now c.args.step) (c.args.a + 1) c.args.b over)

pub loop-i-init : goal.loop-i-init
loop-i-init c = refl

pub returns-then-i-b : goal.returns-then-i-b
returns-then-i-b c =
    sym (broken_over c.args.self.now.held c.args.earlier.now (kept_step c.args.self.now.kept.words.now c.args.step) c.next_of_kinds-i.result c.args.b c.if-i-b.true)
    ∙ broken_to c.args.self.now.held c.args.earlier.now (kept_step c.args.self.now.kept.words.now c.args.step) c.loop-i.i c.next_of_kinds-i.result c.args.b c.next_of_kinds-i.ensures.bounds.0 c.next_of_kinds-i.ensures.bounds.1
    (λ m l k.
    c.never_kinds-one.ensures.needed c.args.earlier.now (nth c.args.self.now.held m) (c.next_of_kinds-i.ensures.passed m l k).0
    (c.next_of_kinds-i.ensures.passed m l k).1)
    ∙ c.loop-i.invariant

pub returns-then-hit : goal.returns-then-hit
returns-then-hit c =
    let s = kept_step c.args.self.now.kept.words.now c.args.step in
    sym (broken_here c.args.self.now.held c.args.earlier.now (kept_step c.args.self.now.kept.words.now c.args.step) c.next_of_kinds-i.result c.args.b c.if-i-b.false
    (subst (λ (e : Event). forbidden c.args.earlier.now s e ≡ true) c.get.ensures (sym c.if-hit.ensures)))
    ∙ broken_to c.args.self.now.held c.args.earlier.now (kept_step c.args.self.now.kept.words.now c.args.step) c.loop-i.i c.next_of_kinds-i.result c.args.b c.next_of_kinds-i.ensures.bounds.0 c.next_of_kinds-i.ensures.bounds.1
    (λ m l k.
    c.never_kinds-one.ensures.needed c.args.earlier.now (nth c.args.self.now.held m) (c.next_of_kinds-i.ensures.passed m l k).0
    (c.next_of_kinds-i.ensures.passed m l k).1)
    ∙ c.loop-i.invariant

pub loop-i-preserved : goal.loop-i-preserved
loop-i-preserved c =
    let s = kept_step c.args.self.now.kept.words.now c.args.step in
    broken_past c.args.self.now.held c.args.earlier.now (kept_step c.args.self.now.kept.words.now c.args.step) c.next_of_kinds-i.result c.args.b c.if-i-b.false
    (subst (λ (e : Event). forbidden c.args.earlier.now s e ≡ false) c.get.ensures (sym c.if-hit.ensures))
    ∙ broken_to c.args.self.now.held c.args.earlier.now (kept_step c.args.self.now.kept.words.now c.args.step) c.loop-i.i c.next_of_kinds-i.result c.args.b c.next_of_kinds-i.ensures.bounds.0 c.next_of_kinds-i.ensures.bounds.1
    (λ m l k.
    c.never_kinds-one.ensures.needed c.args.earlier.now (nth c.args.self.now.held m) (c.next_of_kinds-i.ensures.passed m l k).0
    (c.next_of_kinds-i.ensures.passed m l k).1)
    ∙ c.loop-i.invariant

pub returns : goal.returns
returns c =
    sym (broken_over c.args.self.now.held c.args.earlier.now (kept_step c.args.self.now.kept.words.now c.args.step) c.loop-i.i c.args.b
    c.loop-i-test.false)
    ∙ c.loop-i.invariant
