use Rattle.std.proofs.Common.{arith}
use Rattle.rows.proofs.LevelOk.{hi_none, hi_deep}
use Rattle.rows.proofs.levels.Choice.end.Goals as goal

pub returns-then-self-eq0 : goal.returns-then-self-eq0
returns-then-self-eq0 c = hi_none _ _ _ c.if-self-eq0.true

pub returns-else-self-eq0 : goal.returns-else-self-eq0
returns-else-self-eq0 c = hi_deep _ _ _ c.if-self-eq0.false (omega (arith, c.requires))
