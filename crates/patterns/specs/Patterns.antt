-- Patterns, and what an event has to be to fit a step: field, compared, holds, fits_step, named.
-- Assumes nothing: these are definitions.
use Rattle.std.specs.Prelude.{ℕ, Bool, not, ◌&&◌, List, [], ◌∷◌, ◌==◌, nat_eq, nat_lt}
use Rattle.timeline.specs.declared.events.Event.{Event}
use Rattle.timeline.specs.Lists.{pick, or, every, any}
use Rattle.timeline.specs.Order.{nth}

-- what is compared: 0 who, 1 the value, any other the time
abbrev pub field : Event → ℕ → ℕ
field e k = pick (k == 0) e.who (pick (k == 1) e.value e.time)

-- a field of an event beside a field of an earlier step's event, or beside a number
pub record Test : Type 0 where
  pub what : ℕ  -- the field
  pub sign : ℕ  -- 0 equal, 1 below, any other not below
  pub step : List ℕ  -- none, or which earlier step
  pub other : ℕ  -- the field of that step's event, or the number

-- an event of this kind that passes all tests may not be in between
pub record Never : Type 0 where
  pub kind : ℕ
  pub tests : List Test

pub record Step : Type 0 where
  pub kind : ℕ
  pub tests : List Test
  pub never : List Never  -- what must not happen between the event of the step before and this one

pub record Pattern : Type 0 where
  pub steps : List Step
  pub within : ℕ  -- the window: the last event is no later than the first and this
  pub late : ℕ  -- the lateness: by how much one may hear of an event late

abbrev pub compared : ℕ → ℕ → ℕ → Bool
compared k a b = pick (k == 0) (a == b) (pick (k == 1) (nat_lt a b) (not (nat_lt a b)))

-- what a test compares with, given the events of the steps before
unfoldable pub other_side : List Event → List ℕ → ℕ → ℕ
other_side es [] n = n
other_side es (i ∷ is) n = field (nth es i) n

-- a test holds of an event, given the events of the steps before
abbrev pub holds : List Event → Event → Test → Bool
holds es e t = compared t.sign (field e t.what) (other_side es t.step t.other)

-- an event is of a kind and passes all tests
abbrev pub fits_step : List Event → Event → ℕ → List Test → Bool
fits_step es e k ts = e.kind == k && every (holds es e) ts

-- an event is of a kind that some step or never has
abbrev pub named : Pattern → Event → Bool
named p e = any (λ s. or (s.kind == e.kind) (any (λ n. nat_eq n.kind e.kind) s.never)) p.steps
