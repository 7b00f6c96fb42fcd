use Rattle.std.proofs.Common.{sym}
use Rattle.listener.proofs.Saying.{ended_out, ended_told}
use Rattle.listener.proofs.entry.finish.Goals as goal

pub returns-in_default : goal.returns-in_default
returns-in_default c = ended_out c.args.memory.now c.args.out.now c.in_default.ensures.value

pub returns : goal.returns
returns c =
    let m = c.args.memory.now in
    let h = c.in-Some.head in
    ended_told m c.args.out.now h _ _ _ c.in-Some.ensures.value
    (rw (sym c.begin_at.ensures) c.tell.ensures)
