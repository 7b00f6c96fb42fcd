use Rattle.std.proofs.Common.{length, sym, ap, inl, inr, arith}
use Rattle.rows.proofs.Telling.{row_first, row_second, row_same, row_over}
use Rattle.rows.proofs.told.row_before.Goals as goal

pub returns-then-before : goal.returns-then-before
returns-then-before c = sym (row_first c.args.a.now c.args.b.now _ _ c.loop-x.invariant.2 c.in-Some.x.now c.in-Some.y.now _ _ c.in-Some.ensures.steps (sym c.if-before.ensures))

pub returns-then-before-2 : goal.returns-then-before-2
returns-then-before-2 c =
    sym (row_second c.args.a.now c.args.b.now _ _ c.loop-x.invariant.2 c.in-Some.x.now c.in-Some.y.now _ _ c.in-Some.ensures.steps (sym c.if-before.ensures) (sym c.if-before-2.ensures))

pub loop-x-preserved : goal.loop-x-preserved
loop-x-preserved c =
    let e = c.in-Some.ensures.steps in
    let l = c.loop-x.invariant.3 in (
      (tt, tt),
      tt,
      row_same c.args.a.now c.args.b.now _ _ c.loop-x.invariant.2 c.in-Some.x.now c.in-Some.y.now _ _ e (sym c.if-before.ensures) (sym c.if-before-2.ensures),
      omega (arith, l, ap length e.0, ap length e.1),
    )

pub returns : goal.returns
returns c =
    row_over c.args.a.now c.args.b.now _ _ c.loop-x.invariant.2 c.loop-x.invariant.3 (elim c.in-None.ensures.steps [ inl w ↦ inl w.1.0 | inr w ↦ inr w.1.0 ])
