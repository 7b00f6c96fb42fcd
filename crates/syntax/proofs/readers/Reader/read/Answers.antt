use Rattle.std.proofs.Common.{refl, ap, ◌∙◌}
use Rattle.std.proofs.Math.Logic.{∥∥₁_map}
use Rattle.std.specs.Option.{option_map}
use Rattle.syntax.specs.Reading.{moved, settled, ready}
use Rattle.syntax.proofs.Room.{roomy_sound}
use Rattle.syntax.proofs.Staying.{sound_ready, sound_next, stands_next, stands_wanted}
use Rattle.syntax.proofs.readers.Reader.read.Goals as goal

pub returns-in_default : goal.returns-in_default
returns-in_default c =
    λ s h k.
    let b = c.args.byte in
    let at = ready b s in
    let stands = c.ready.ensures s h in
    let none = stands_next c.ready.new.self at stands b c.step.result c.step.ensures in
    (none ∙ ap (option_map (moved at.built)) c.in_default.is, stands_wanted c.settle.new.self (settled at) (c.settle.ensures at stands) c.expected.result c.expected.ensures)

pub take-requires : goal.take-requires
take-requires c = roomy_sound _ _ c.ready.new.self.sound

pub invariant_of-self : goal.invariant_of-self
invariant_of-self c =
    let b = c.args.byte in
    let step = c.in-Some.step in
    let old = c.ready.new.self in
    record {
      sound =
          ∥∥₁_map old.sound (λ h.
          let on = stands_next old h.0 h.1 b c.step.result c.step.ensures ∙ ap (option_map (moved h.0.built)) c.in-Some.is in
          (moved h.0.built step, record { stand = refl; draft = c.take.ensures h.0.built h.1.draft }, sound_next b h.0 (moved h.0.built step) h.2 on)
          );
    }

pub returns : goal.returns
returns c =
    λ s h k.
    let b = c.args.byte in
    let at = ready b s in
    let stands = c.ready.ensures s h in
    let step = c.in-Some.step in
    let on = stands_next c.ready.new.self at stands b c.step.result c.step.ensures ∙ ap (option_map (moved at.built)) c.in-Some.is in (
      moved at.built step,
      on,
      record { stand = refl; draft = c.take.ensures at.built stands.draft },
      sound_next b at (moved at.built step) (sound_ready b s k) on,
    )
