-- The first part of an event that is too large, among all parts.
use Rattle.std.proofs.Common.{◌≡◌, Bool, true, false, not, cond, [], ◌∷◌, ltb, Some, None, refl}
use Rattle.std.specs.List.{find}
use Rattle.timeline.specs.declared.events.Event.{Event}
use Rattle.timeline.specs.Lists.{pick}
use Rattle.files.specs.declared.faults.Part.TheVariants.{Time, Kind, Who, Value}
use Rattle.files.specs.Events.{part_too_large, too_large}

four : (a b c d : Bool) → cond (not a) (Some Time) (cond (not b) (Some Kind) (cond (not c) (Some Who) (cond (not d) (Some Value) None)))
    ≡ pick a (pick b (pick c (pick d None (Some Value)) (Some Who)) (Some Kind)) (Some Time)
four false b c d = refl
four true false c d = refl
four true true false d = refl
four true true true false = refl
four true true true true = refl

pub first_is : (e : Event) → find (part_too_large e) (Time ∷ Kind ∷ Who ∷ Value ∷ []) ≡ too_large e
first_is e = four (ltb e.time 4611686018427387904) (ltb e.kind 65536) (ltb e.who 4611686018427387904) (ltb e.value 4611686018427387904)
