use Rattle.std.proofs.Common.{refl, sym, ◌∙◌, drop}
use Rattle.patterns.specs.Kept.{never_cells}
use Rattle.patterns.specs.Reading.{first_tests}
use Rattle.patterns.proofs.Wholes.{never_may}
use Rattle.patterns.proofs.reading.kind_and_tests.Goals as goal

pub returns : goal.returns
unfolding never_cells
returns c =
    let row = c.args.row.now in
    let ts = first_tests (drop 1 row) in
    let h = rw c.first-kind.ensures.1 at c.in_ok-tests.ensures in
    let low = rw c.first-kind.ensures.0 at c.if-kind-ge-KINDS.false in (
      sym (never_may c.args.before row low) ∙ h.0,
      rw (c.laid.ensures, c.first-kind.ensures.0, h.1) refl,
      h.2,
    )
