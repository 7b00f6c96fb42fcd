use Rattle.std.proofs.lemmas.Bool.{and_from}
use Rattle.patterns.specs.Reading.{first_never, first_nevers, behind_never, a_never, some_nevers}
use Rattle.patterns.proofs.Wholes.{step_whole}
use Rattle.patterns.proofs.reading.step.Goals as goal

pub returns : goal.returns
returns c =
    let row = c.args.row.now in
    let front = c.in_ok-front.ensures in
    let h = rw front.2 at c.in_ok-nevers.ensures in
    let v = first_never row in
    let vs = first_nevers (behind_never row) in (
      and_from (a_never c.args.before v) (some_nevers c.args.before vs) front.0 h.0,
      rw (c.laid.ensures, front.1, h.1) (step_whole row),
      h.2,
    )
