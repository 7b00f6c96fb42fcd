use Rattle.std.proofs.Common.{ap, ◌∙◌, arith}
use Rattle.patterns.specs.Kept.{kept_count}
use Rattle.listener.specs.Machine.{cells_of, ring_of}
use Rattle.listener.proofs.Doing.{tells_none, tells_row}
use Rattle.listener.proofs.turns.tell.Goals as goal

pub returns-in_default : goal.returns-in_default
returns-in_default c =
    let m = c.args.memory.now in
    tells_none c.args.phase c.args.head (cells_of m) (ring_of m) c.args.cursor _ _ _ _ c.in_default.ensures c.settle.ensures

pub returns : goal.returns
returns c =
    let m = c.args.memory.now in
    tells_row c.args.phase c.args.head (cells_of m) (ring_of m) c.args.cursor c.in-Some.found c.steps-steps.result _ _ _ c.in-Some.ensures
    (c.steps-steps.ensures ∙ ap kept_count c.pattern_in.ensures) (omega arith) c.store.ensures c.write_row.ensures
