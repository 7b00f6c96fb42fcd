use Rattle.std.specs.Fmt.{HasWritten, IsPlainFormatter}
use Rattle.patterns.specs.Kept.{kept_step}
use Rattle.syntax.specs.Typed.{typed_step}
use Rattle.syntax.proofs.Texts.{so_far}
use Rattle.syntax.proofs.typed.TypedPatternDisplay.fmt.Given as goal

-- the steps so far are written
abbrev pub invariant-loop-i : goal.invariant-loop-i
invariant-loop-i g l = IsPlainFormatter l.initial.f → HasWritten g.W.Write.write_str_gives l.initial.f (so_far typed_step (kept_step l.self.words.now) l.i) l.f
