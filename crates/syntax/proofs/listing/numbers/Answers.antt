use Rattle.std.proofs.Common.{length, ap, ◌∙◌, arith}
use Rattle.syntax.proofs.Listed.{row_short}
use Rattle.syntax.proofs.listing.numbers.Goals as goal

pub returns-clause-short : goal.returns-clause-short
returns-clause-short c =
    omega (
      arith,
      ap length (c.in_ok-numbers.ensures.items ∙ c.as_slice.ensures.value),
      row_short c.args.text.now c.in_ok-row.row c.in_ok-row.ensures,
    )
