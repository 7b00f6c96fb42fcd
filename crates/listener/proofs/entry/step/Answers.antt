use Rattle.std.proofs.Common.{ℕ, List, subst, arith}
use Rattle.listener.specs.Machine.{machine}
use Rattle.listener.specs.Entry.{call_number, told_of, Did}
use Rattle.std.proofs.lemmas.Result.{err_from_is_err_and}
use Rattle.listener.proofs.Entering.{steps, misfits}
use Rattle.listener.proofs.entry.step.Goals as goal

pub returns-in_err-call : goal.returns-in_err-call
returns-in_err-call c =
    let answer = err_from_is_err_and c.from_residual.result c.from_residual.ensures.1 in
    let no_call = c.in_err-call.ensures in
    rw (answer.1, answer.2, no_call.0) (misfits c.args.memory.now c.args.row.now c.args.out.now c.args.kind (λ a b d. omega (arith, no_call.1)))

pub returns-in_default : goal.returns-in_default
returns-in_default c = misfits c.args.memory.now c.args.row.now c.args.out.now c.args.kind (λ a b d. absurd (c.in_default.ensures.cases a))

pub returns-in_default-first_chunk_mut : goal.returns-in_default-first_chunk_mut
returns-in_default-first_chunk_mut c =
    rw c.in-Some.ensures.cases.same (misfits c.args.memory.now c.args.row.now c.args.out.now c.args.kind (λ a b d. c.in_default-first_chunk_mut.ensures.cases))

pub returns-then-row-gt-ROW_MOST : goal.returns-then-row-gt-ROW_MOST
returns-then-row-gt-ROW_MOST c = misfits c.args.memory.now c.args.row.now c.args.out.now c.args.kind (λ a b d. absurd (omega (arith, c.if-row-gt-ROW_MOST.true)))

pub returns : goal.returns
returns c =
    let m = c.args.memory.now in
    let whole = c.in-Some.ensures.cases in
    let first = c.in-Some-first_chunk_mut.ensures.cases in
    let call = c.in_ok-call.call in
    let row = c.args.row.now in
    let did =
    subst (λ (x : List ℕ). Did (machine m (told_of (call_number call) row)) c.act.result c.act.new.memory x c.act.new.out) first.same
    (subst (λ (x : List ℕ). Did (machine x (told_of (call_number call) row)) c.act.result c.act.new.memory c.in-Some-first_chunk_mut.out.now c.act.new.out) whole.same c.act.ensures) in
    steps m row c.args.out.now c.args.kind call c.act.result c.act.new.memory c.act.new.out c.in_ok-call.ensures whole.long c.if-row-gt-ROW_MOST.false first.enough did
