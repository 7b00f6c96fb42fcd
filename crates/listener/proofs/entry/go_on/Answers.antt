use Rattle.listener.proofs.Saying.{gone_out, gone_telling, gone_ending}
use Rattle.listener.proofs.entry.go_on.Goals as goal

pub returns-in-Some : goal.returns-in-Some
returns-in-Some c = gone_telling c.args.memory.now c.args.out.now c.in-Some.head _ _ _ c.in-Some.ensures.value c.resume.ensures

pub returns-in_default-in_phase : goal.returns-in_default-in_phase
returns-in_default-in_phase c = gone_out c.args.memory.now c.args.out.now c.in_default.ensures.value c.in_default-in_phase.ensures.value

pub returns : goal.returns
returns c = gone_ending c.args.memory.now c.args.out.now c.in-Some-in_phase.head _ _ _ c.in_default.ensures.value c.in-Some-in_phase.ensures.value c.resume-2.ensures
