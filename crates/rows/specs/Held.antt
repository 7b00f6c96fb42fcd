-- What the search's code asks of held events, and what it keeps of those that it has chosen.
-- Assumes nothing: these are definitions.
use Rattle.std.specs.Prelude.{◌≡◌, ℕ, ◌+◌, ◌-◌, ◌<◌, true, false, List, [], ◌∷◌, length, get_or, ◌==◌, nat_lt, slice_index, slice_index_or}
use Rattle.timeline.specs.declared.events.Event.{Event}
use Rattle.timeline.specs.Lists.{pick}
use Rattle.timeline.specs.Order.{nothing, nth}

-- an event of neither of two kinds
abbrev pub OfNeither : ℕ → ℕ → Event → Type 0
OfNeither a b e = ((e.kind == a) ≡ false) × ((e.kind == b) ≡ false)

-- an event of another who, or of another kind
abbrev pub OfAnother : ℕ → ℕ → Event → Type 0
OfAnother w k e = (e.who == w) ≡ true → (e.kind == k) ≡ false

-- the first d of these events stand at the first d of these positions
pub record Along (h : List Event) (at : List ℕ) (row : List Event) (d : ℕ) : Type 0 where
  pub inside : (j : ℕ) → j < d → slice_index at j < length h
  pub are : (j : ℕ) → j < d → slice_index_or row j nothing ≡ nth h (slice_index at j)

-- which step a depth chooses for, of k steps
abbrev pub level_step : ℕ → ℕ → ℕ
level_step k d = pick (d == 0) (k - 1) (d - 1)

-- the number told at a place, of a row of k events whose last stands first
abbrev pub number_at : List Event → ℕ → ℕ → ℕ
number_at row k j = pick (nat_lt (j + 1) k) (get_or row (j + 1) nothing).heard (pick (j + 1 == k) (get_or row 0 nothing).heard 0)

-- all six, 0 behind the row
abbrev pub six_of : List Event → ℕ → List ℕ
six_of row k = number_at row k 0 ∷ number_at row k 1 ∷ number_at row k 2 ∷ number_at row k 3 ∷ number_at row k 4 ∷ number_at row k 5 ∷ []
