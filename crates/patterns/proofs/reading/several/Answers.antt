use Rattle.std.proofs.Common.{◌≤◌, ◌<◌, take, length, rules}
use Rattle.std.proofs.lemmas.List.{take_more_set, take_all}
use Rattle.patterns.proofs.Several.{left_one, left_fail, left_done}
use Rattle.patterns.proofs.reading.several.Goals as goal

pub returns-in_err-part : goal.returns-in_err-part
returns-in_err-part g c kind reads =
    let i = c.loop-before.before in
    let l : i < length c.args.slots.now = search rules in
    let read = rw c.in_err-part.was at (reads c.loop-before.left i c.read.result c.read.ensures) in
    rw c.from_residual.ensures (left_fail kind (length c.args.slots.now) c.args.row.now i c.loop-before.left.now (take i c.loop-before.slots) (c.loop-before.invariant kind reads) l read)

pub loop-before-preserved : goal.loop-before-preserved
loop-before-preserved g c kind reads =
    let i = c.loop-before.before in
    let l : i < length c.args.slots.now = search rules in
    let m : i < length c.loop-before.slots = search rules in
    let read = rw c.in_ok-part.was at (reads c.loop-before.left i c.read.result c.read.ensures) in
    rw (take_more_set c.loop-before.slots i c.in_ok-part.part m) (
    left_one kind (length c.args.slots.now) c.args.row.now i c.loop-before.left.now (take i c.loop-before.slots) (c.loop-before.invariant kind reads) c.in_ok-part.part c.in_ok-part.rest.now l read.0 read.1 read.2
    )

pub returns : goal.returns
returns g c kind reads =
    let i = c.loop-before.before in
    let l : length c.args.slots.now ≤ i = search rules in
    let m : length c.loop-before.slots ≤ i = search rules in
    rw (← take_all i c.loop-before.slots m) (left_done kind (length c.args.slots.now) c.args.row.now i c.loop-before.left.now (take i c.loop-before.slots) (c.loop-before.invariant kind reads) l)
