use Rattle.std.proofs.Common.{refl}
use Rattle.syntax.specs.Reading.{begun}
use Rattle.syntax.proofs.Staying.{sound_begun}
use Rattle.syntax.proofs.readers.Reader.new.Goals as goal

pub invariant_of-result : goal.invariant_of-result
invariant_of-result c = record { sound = ∣ (begun, record { stand = refl; draft = c.new.ensures }, sound_begun) ∣₁ }
