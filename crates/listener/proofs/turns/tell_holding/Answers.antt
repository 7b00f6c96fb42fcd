use Rattle.std.proofs.Common.{sym}
use Rattle.listener.proofs.Doing.{holding_is}
use Rattle.listener.proofs.turns.tell_holding.Goals as goal

pub returns : goal.returns
returns c =
    rw (sym (holding_is c.args.memory.now c.hold.new.memory c.args.head c.args.e c.told-memory c.hold.ensures)) c.tell_newly.ensures
