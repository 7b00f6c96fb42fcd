use Rattle.std.proofs.Common.{◌+◌, ◌*◌}
use Rattle.std.specs.Fmt.{HasWritten, IsPlainFormatter}
use Rattle.patterns.specs.Kept.{kept_never}
use Rattle.syntax.specs.Typed.{typed_never}
use Rattle.syntax.proofs.Texts.{so_far}
use Rattle.syntax.proofs.typed.TypedStepDisplay.fmt.Given as goal

-- the nevers so far are written
abbrev pub invariant-loop-part : goal.invariant-loop-part
invariant-loop-part g l =
    IsPlainFormatter l.initial.f → HasWritten g.W.Write.write_str_gives l.initial.f (so_far (λ j v. typed_never v) (λ j. kept_never l.self.words.now (22 + 1 + 22 * j)) l.part-index) l.f
