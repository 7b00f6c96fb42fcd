use Rattle.std.proofs.Common.{rules, ◌≡◌, [], ◌∷◌, ◌∙◌}
use Rattle.std.specs.List.{find}
use Rattle.files.specs.declared.faults.Part.TheVariants.{Time, Kind, Who, Value}
use Rattle.files.specs.Events.{part_too_large}
use Rattle.files.proofs.Parts.{first_is}
use Rattle.files.proofs.faults.too_large.Goals as goal

pub returns-clause-part : goal.returns-clause-part
returns-clause-part c =
    let found : c.find.result ≡ find (part_too_large c.args.e) (Time ∷ Kind ∷ Who ∷ Value ∷ []) = search rules in
    found ∙ first_is c.args.e
