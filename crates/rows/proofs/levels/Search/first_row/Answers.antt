use Rattle.std.proofs.Common.{◌≡◌, length, arith, rules}
use Rattle.rows.proofs.FirstRow.{events_ready, start, over, goes_back, candidate_ready, goes_far, get_ready, stand_ready, goes_on, tells, start_ready, goes_down}
use Rattle.rows.proofs.levels.Search.first_row.Goals as goal

pub choice_at-choice-requires : goal.choice_at-choice-requires
choice_at-choice-requires c =
    let all = events_ready _ _ _ _ c.requires _ c.steps-steps.ensures in
    record { few = all.0; inside = all.1 }

pub loop-choice-init : goal.loop-choice-init
loop-choice-init c =
    let l : length c.args.cursor.at ≡ 6 = search rules in
    let k : length c.choice_at-choice.result.row ≡ 6 = search rules in
    start _ _ _ _ c.requires _ c.steps-steps.ensures _ _ _ c.choice_at-choice.ensures.at c.choice_at-choice.ensures.depth l k c.choice_at-choice.ensures.events

pub returns-then-depth-eq0 : goal.returns-then-depth-eq0
returns-then-depth-eq0 c = over _ _ _ _ c.requires _ c.steps-steps.ensures _ _ _ c.loop-choice.invariant _ c.end-end.ensures c.if-depth-eq0.true (omega (arith, c.if-choice-depth.true))

pub loop-choice-preserved-then-choice-depth : goal.loop-choice-preserved-then-choice-depth
loop-choice-preserved-then-choice-depth c = (goes_back _ _ _ _ c.requires _ c.steps-steps.ensures _ _ _ c.loop-choice.invariant _ c.end-end.ensures c.if-depth-eq0.false (omega (arith, c.if-choice-depth.true))).0

pub loop-choice-smaller-then-choice-depth : goal.loop-choice-smaller-then-choice-depth
loop-choice-smaller-then-choice-depth c = (goes_back _ _ _ _ c.requires _ c.steps-steps.ensures _ _ _ c.loop-choice.invariant _ c.end-end.ensures c.if-depth-eq0.false (omega (arith, c.if-choice-depth.true))).1

pub next_asked-p-requires : goal.next_asked-p-requires
next_asked-p-requires c =
    let all = candidate_ready _ _ _ _ c.requires _ c.steps-steps.ensures _ _ _ c.loop-choice.invariant _ c.end-end.ensures (omega (arith, c.if-choice-depth.false)) in
    record { few = all.0; order = all.1; inside = all.2; along = all.3 }

pub loop-choice-preserved-then-p-end : goal.loop-choice-preserved-then-p-end
loop-choice-preserved-then-p-end c = (goes_far _ _ _ _ c.requires _ c.steps-steps.ensures _ _ _ c.loop-choice.invariant _ c.end-end.ensures _ c.next_asked-p.ensures.bounds c.next_asked-p.ensures.passed (omega (arith, c.if-choice-depth.false)) c.if-p-end.true).0

pub loop-choice-smaller-then-p-end : goal.loop-choice-smaller-then-p-end
loop-choice-smaller-then-p-end c = (goes_far _ _ _ _ c.requires _ c.steps-steps.ensures _ _ _ c.loop-choice.invariant _ c.end-end.ensures _ c.next_asked-p.ensures.bounds c.next_asked-p.ensures.passed (omega (arith, c.if-choice-depth.false)) c.if-p-end.true).1

pub get-requires : goal.get-requires
get-requires c = get_ready _ _ _ _ c.requires _ c.steps-steps.ensures _ _ _ c.loop-choice.invariant _ c.end-end.ensures _ c.next_asked-p.ensures.bounds c.next_asked-p.ensures.passed c.if-p-end.false

pub may_stand-requires : goal.may_stand-requires
may_stand-requires c =
    let all = stand_ready _ _ _ _ c.requires _ c.steps-steps.ensures _ _ _ c.loop-choice.invariant _ c.end-end.ensures _ c.next_asked-p.ensures.bounds c.next_asked-p.ensures.passed c.if-p-end.false _ c.get.ensures in
    record { few = all.0; along = all.1 }

pub loop-choice-preserved-then-not-may_stand : goal.loop-choice-preserved-then-not-may_stand
loop-choice-preserved-then-not-may_stand c = (goes_on _ _ _ _ c.requires _ c.steps-steps.ensures _ _ _ c.loop-choice.invariant _ c.end-end.ensures _ c.next_asked-p.ensures.bounds c.next_asked-p.ensures.passed c.if-p-end.false _ c.get.ensures c.if-not-may_stand.ensures).0

pub loop-choice-smaller-then-not-may_stand : goal.loop-choice-smaller-then-not-may_stand
loop-choice-smaller-then-not-may_stand c = (goes_on _ _ _ _ c.requires _ c.steps-steps.ensures _ _ _ c.loop-choice.invariant _ c.end-end.ensures _ c.next_asked-p.ensures.bounds c.next_asked-p.ensures.passed c.if-p-end.false _ c.get.ensures c.if-not-may_stand.ensures).1

pub returns-then-depth-steps : goal.returns-then-depth-steps
returns-then-depth-steps c = tells _ _ _ _ c.requires _ c.steps-steps.ensures _ _ _ c.loop-choice.invariant _ c.end-end.ensures _ c.next_asked-p.ensures.bounds c.next_asked-p.ensures.passed c.if-p-end.false _ c.get.ensures c.if-not-may_stand.ensures c.told.result c.if-depth-steps.true c.told.ensures

pub level_start-requires : goal.level_start-requires
level_start-requires c =
    let all = start_ready _ _ _ _ c.requires _ c.steps-steps.ensures _ _ _ c.loop-choice.invariant _ c.end-end.ensures _ c.next_asked-p.ensures.bounds c.next_asked-p.ensures.passed c.if-p-end.false _ c.get.ensures c.if-not-may_stand.ensures c.if-depth-steps.false in
    record { below = all.0; few = all.1; last = all.2; inside = all.3; order = all.4 }

pub loop-choice-preserved : goal.loop-choice-preserved
loop-choice-preserved c = (goes_down _ _ _ _ c.requires _ c.steps-steps.ensures _ _ _ c.loop-choice.invariant _ c.end-end.ensures _ c.next_asked-p.ensures.bounds c.next_asked-p.ensures.passed c.if-p-end.false _ c.get.ensures c.if-not-may_stand.ensures c.if-depth-steps.false c.level_start.result (c.level_start.ensures.bounds, c.level_start.ensures.passed)).0

pub loop-choice-smaller : goal.loop-choice-smaller
loop-choice-smaller c = (goes_down _ _ _ _ c.requires _ c.steps-steps.ensures _ _ _ c.loop-choice.invariant _ c.end-end.ensures _ c.next_asked-p.ensures.bounds c.next_asked-p.ensures.passed c.if-p-end.false _ c.get.ensures c.if-not-may_stand.ensures c.if-depth-steps.false c.level_start.result (c.level_start.ensures.bounds, c.level_start.ensures.passed)).1
