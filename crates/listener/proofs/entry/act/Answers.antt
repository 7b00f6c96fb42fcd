use Rattle.listener.specs.Machine.{machine}
use Rattle.listener.specs.Entry.{told_of}
use Rattle.listener.proofs.entry.act.Goals as goal

pub returns-in-Pattern : goal.returns-in-Pattern
unfolding machine told_of
returns-in-Pattern c = rw c.in-Pattern.is c.begin.ensures

pub returns-in-Event : goal.returns-in-Event
unfolding machine told_of
returns-in-Event c = rw c.in-Event.is c.come.ensures

pub returns-in-End : goal.returns-in-End
unfolding machine told_of
returns-in-End c = rw c.in-End.is c.finish.ensures

pub returns-in-Next : goal.returns-in-Next
unfolding machine told_of
returns-in-Next c = rw c.in-Next.is c.go_on.ensures
