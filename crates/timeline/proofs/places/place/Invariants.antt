use Rattle.std.proofs.Common.{◌≡◌, ◌≤◌, drop}
use Rattle.timeline.specs.Places.{place_of}
use Rattle.timeline.proofs.Placing.{left}
use Rattle.timeline.proofs.places.place.Given as goal

-- what is left of the row gives the whole answer
abbrev pub invariant-loop-t : goal.invariant-loop-t
invariant-loop-t l = (l.count ≤ l.t-index) × (place_of l.time l.times ≡ left l.time l.last l.count (drop l.t-index l.times))
