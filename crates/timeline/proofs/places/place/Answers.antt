use Rattle.std.proofs.Common.{◌+◌, get_or, drop, sym, ◌∙◌, arith}
use Rattle.std.proofs.lemmas.List.{at_drop_more, at_drop_all}
use Rattle.timeline.proofs.Placing.{left, place_start, place_falls, place_not_above, place_above, place_end}
use Rattle.timeline.proofs.places.place.Goals as goal
use Rattle.timeline.proofs.places.place.Goals.{then-t-time, else-t-time}

pub loop-t-init : goal.loop-t-init
loop-t-init c = (omega arith, place_start c.args.time c.args.times.now)

pub returns-then-t-last : goal.returns-then-t-last
returns-then-t-last c =
    let t = c.args.time in
    let l = c.loop-t in
    let xs = c.args.times.now in
    let x = get_or xs l.t-index 0 in
    sym (l.invariant.1
    ∙ at_drop_more (left t l.last l.count) xs l.t-index 0 (omega arith)
    ∙ place_falls t l.last l.count x (drop (l.t-index + 1) xs) c.if-t-last.true)

pub loop-t-preserved : goal.loop-t-preserved
loop-t-preserved c =
    let t = c.args.time in
    let l = c.loop-t in
    let xs = c.args.times.now in
    let x = get_or xs l.t-index 0 in
    let rest = drop (l.t-index + 1) xs in
    let more = l.invariant.1 ∙ at_drop_more (left t l.last l.count) xs l.t-index 0 (omega arith) in
    elim c.if-t-time.branch [
      | then-t-time w ↦ (
        omega (arith, w.count-is),
        rw (w.last-is, w.count-is) (more ∙ place_not_above t l.last l.count x rest c.if-t-last.false w.if-t-time.true),
      )
      | else-t-time w ↦ (
        omega (arith, w.count-is),
        rw (w.last-is, w.count-is) (more ∙ place_above t l.last l.count x rest c.if-t-last.false w.if-t-time.false),
      )
    ]

pub returns : goal.returns
returns c =
    let l = c.loop-t in
    sym (l.invariant.1 ∙ at_drop_all (left c.args.time l.last l.count) c.args.times.now l.t-index (omega arith) ∙ place_end c.args.time l.last l.count)
