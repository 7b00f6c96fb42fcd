use Rattle.listener.proofs.Doing.{After, after_ending, after_others, settled_does}
use Rattle.listener.proofs.turns.settle.Goals as goal
use Rattle.listener.proofs.turns.settle.Goals.{in-Ending, in_default}

pub returns : goal.returns
returns c =
    let span = c.forget_stale-span in
    let after =
    elim c.match-phase.branch as (λ x. After c.args.phase c.match-phase.next) [
      | in-Ending w ↦ after_ending c.args.phase c.match-phase.next w.in-Ending.is w.next-is
      | in_default w ↦ after_others c.args.phase c.match-phase.next w.in_default.not-Ending w.next-is
    ] in
    settled_does c.args.memory.now span.new.memory c.store.new.memory c.args.out.now c.args.head c.args.phase c.match-phase.next span.result.start span.result.len
    c.saturating_sub.result after c.told-memory span.ensures.after span.ensures.start span.ensures.len c.saturating_sub.ensures c.store.ensures
