use Rattle.std.proofs.Common.{◌+◌, ◌*◌, ◌++◌}
use Rattle.std.specs.Fmt.{HasWritten, IsPlainFormatter}
use Rattle.patterns.specs.Kept.{kept_test}
use Rattle.syntax.specs.Typed.{joint, typed_test}
use Rattle.syntax.proofs.Texts.{so_far}
use Rattle.syntax.proofs.typed.TypedItemDisplay.fmt.Given as goal

-- the tests so far are written
abbrev pub invariant-loop-i : goal.invariant-loop-i
invariant-loop-i g l =
    IsPlainFormatter l.initial.f
    → HasWritten g.W.Write.write_str_gives l.initial.f (so_far (λ j t. joint j ++ typed_test l.letter.byte t) (λ j. kept_test l.self.words.now (1 + 1 + 5 * j)) l.i) l.f
