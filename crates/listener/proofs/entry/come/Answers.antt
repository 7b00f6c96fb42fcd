use Rattle.std.proofs.Common.{sym}
use Rattle.listener.specs.declared.head.Turn.TheVariants.{Late, Full, Counts}
use Rattle.listener.proofs.Saying.{no_turn, told_misfit, told_heard, late_done, full_done}
use Rattle.listener.proofs.entry.come.Goals as goal

pub returns-in_default : goal.returns-in_default
returns-in_default c = no_turn c.args.memory.now c.args.out.now _ _ _ _ c.in_default.ensures.value

pub returns-then-not-is_event : goal.returns-then-not-is_event
returns-then-not-is_event c =
    told_misfit c.args.memory.now c.args.out.now _ _ _ _ c.in-Some.head c.event_in-e.result c.event_in-e.ensures c.in-Some.ensures.value (sym c.if-not-is_event.ensures)

pub returns-in-Late : goal.returns-in-Late
returns-in-Late c =
    told_heard c.args.memory.now c.args.out.now _ _ _ _ c.in-Some.head c.event_in-e.result c.event_in-e.ensures c.in-Some.ensures.value
    Late _ _ _ (sym c.if-not-is_event.ensures) c.in-Late.ensures.value (late_done c.args.memory.now c.args.out.now _ c.in-Some.head c.event_in-e.result c.store.ensures)

pub returns-in-Full : goal.returns-in-Full
returns-in-Full c =
    told_heard c.args.memory.now c.args.out.now _ _ _ _ c.in-Some.head c.event_in-e.result c.event_in-e.ensures c.in-Some.ensures.value
    Full _ _ _ (sym c.if-not-is_event.ensures) c.in-Full.ensures.value (full_done c.args.memory.now c.args.out.now _ c.in-Some.head c.event_in-e.result c.store-in-Full.ensures)

pub returns-then-named : goal.returns-then-named
returns-then-named c =
    let m = c.args.memory.now in
    told_heard c.args.memory.now c.args.out.now _ _ _ _ c.in-Some.head c.event_in-e.result c.event_in-e.ensures c.in-Some.ensures.value
    (Counts c.in-Counts.head c.in-Counts.named) _ _ _ (sym c.if-not-is_event.ensures) c.in-Counts.ensures.value
    (rw c.if-named.true c.tell_holding.ensures)

pub returns-else-named : goal.returns-else-named
returns-else-named c =
    let m = c.args.memory.now in
    told_heard c.args.memory.now c.args.out.now _ _ _ _ c.in-Some.head c.event_in-e.result c.event_in-e.ensures c.in-Some.ensures.value
    (Counts c.in-Counts.head c.in-Counts.named) _ _ _ (sym c.if-not-is_event.ensures) c.in-Counts.ensures.value
    (rw c.if-named.false c.tell_newly.ensures)
