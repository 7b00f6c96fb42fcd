use Rattle.std.proofs.Common.{rules}
use Rattle.rows.proofs.held.Held.next_of_kinds.Goals as goal

pub returns-clause-passed : goal.returns-clause-passed
returns-clause-passed c = λ i l k. let e = c.first.ensures.passed i l k in search rules
