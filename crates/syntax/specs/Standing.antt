-- Where a reader stands and what it has read, as a state that is sound.
-- Assumes nothing: these are definitions.
use Rattle.std.specs.Prelude.{◌≡◌}
use Rattle.syntax.specs.declared.places.Stand.{Stand}
use Rattle.syntax.specs.declared.drafts.Draft.{Draft}
use Rattle.syntax.specs.Reading.{State}
use Rattle.syntax.specs.Sound.{Sound}
use Rattle.syntax.specs.Drafts.{Drawn}

pub record StandsFor (at : Stand) (d : Draft) (s : State) : Type 0 where
  pub stand : at ≡ s.stand
  pub draft : Drawn d s.built

-- they stand for some state, and that is sound
abbrev pub IsSound : Stand → Draft → Type 0
IsSound at d = (s : State) × StandsFor at d s × Sound s
