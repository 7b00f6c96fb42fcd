use Rattle.std.proofs.Common.{rules, arith}
use Rattle.rows.proofs.held.Held.first_in_reach.Goals as goal

pub returns-clause-passed : goal.returns-clause-passed
returns-clause-passed c = λ i l. let e = c.first.ensures.passed i l (omega arith) in search rules
