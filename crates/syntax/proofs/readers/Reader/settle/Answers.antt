use Rattle.std.proofs.Common.{rules}
use Rattle.std.proofs.Math.Logic.{∥∥₁_map}
use Rattle.syntax.specs.Reading.{settled}
use Rattle.syntax.proofs.Room.{roomy_sound}
use Rattle.syntax.proofs.Staying.{sound_settled}
use Rattle.syntax.proofs.readers.Reader.settle.Goals as goal

pub take-requires : goal.take-requires
take-requires c = roomy_sound _ _ c.args.self.now.sound

pub invariant_of-self : goal.invariant_of-self
invariant_of-self c = record { sound = ∥∥₁_map c.args.self.now.sound (λ h. (settled h.0, search rules, sound_settled h.0 h.2)) }
