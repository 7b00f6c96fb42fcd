use Rattle.std.proofs.Common.{false, arith}
use Rattle.rows.proofs.Scanned.{scanned, scanned_both}
use Rattle.rows.proofs.held.Held.first.Goals as goal

pub returns-then-i-front-clause-passed : goal.returns-then-i-front-clause-passed
returns-then-i-front-clause-passed g c =
    scanned (λ e. goal.F-post g c.args.test e false) _ _ _ c.between.ensures.front c.first_in-i.result c.first_in-i.ensures.bound
    c.first_in-i.ensures.passed

pub returns-clause-passed : goal.returns-clause-passed
returns-clause-passed g c = λ i l k.
    scanned_both (λ e. goal.F-post g c.args.test e false) _ _ _ _ c.between.ensures.front c.between.ensures.back
    (λ j q. c.first_in-i.ensures.passed j (omega (arith, c.if-i-front.false))) c.first_in.result c.first_in.ensures.bound c.first_in.ensures.passed i
    (omega (arith, l, c.if-i-front.false, c.first_in-i.ensures.bound)) k
