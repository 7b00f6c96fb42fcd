-- Which rows fit a pattern, in the words of the subject and not of the search for them; and that the rows found are those, each once.
-- Statements; the functions of laws.rt owe their proofs. Assumes nothing.
use Rattle.std.specs.Prelude.{◌≡◌, ℕ, suc, ◌+◌, ◌<◌, ◌≤◌, true, false, ◌⊎◌, List, [], ◌∷◌, length, take, ◌≢◌, slice_index_or}
use Rattle.timeline.specs.declared.events.Event.{Event}
use Rattle.timeline.specs.Order.{before, nth, first_of, last_of, each_heard}
use Rattle.patterns.specs.Patterns.{Pattern, fits_step}
use Rattle.rows.specs.Rows.{between, all_rows}
use Rattle.rows.specs.Finding.{forbidden, step_of}

-- x is one of a list
unfoldable pub Among : {A : Type 0} → A → List A → Type 0
Among x [] = ⊥
Among x (y ∷ ys) = (x ≡ y) ⊎ Among x ys

-- a row fits a pattern among some events
pub record Fits (p : Pattern) (es r : List Event) : Type 0 where
  -- it has an event for each step,
  pub each_step : length r ≡ length p.steps
  -- one of those that there are,
  pub there : (i : ℕ) → i < length r → Among (nth r i) es
  -- of the step's kind, which passes the step's tests beside the events of the steps before;
  pub passes : (i : ℕ) → i < length r → fits_step (take i r) (nth r i) (step_of p.steps i).kind (step_of p.steps i).tests ≡ true
  -- each is before the next;
  pub in_time : (i : ℕ) → suc i < length r → before (nth r i) (nth r (suc i)) ≡ true
  -- the last is no later than the first and the window;
  pub in_window : (last_of r).time ≤ (first_of r).time + p.within
  -- and of all events none that lies between one and the next is forbidden by a never of that next one's step
  pub undisturbed :
      (i : ℕ) → suc i < length r → (f : Event) → Among f es → between (nth r i) (nth r (suc i)) f ≡ true →
      forbidden (take (suc i) r) (step_of p.steps (suc i)) f ≡ false

-- all rows of a pattern are all that fit, and no others
unfoldable pub AllThatFit : Type 0
AllThatFit = (p : Pattern) (es r : List Event) → (Among r (all_rows p es) → Fits p es r) × (Fits p es r → Among r (all_rows p es))

-- at two places among all rows there stand two rows
unfoldable pub NoRowTwice : Type 0
NoRowTwice =
    (p : Pattern) (es : List Event) → each_heard 0 es ≡ true →
    (i j : ℕ) → i < j → j < length (all_rows p es) → slice_index_or (all_rows p es) i [] ≢ slice_index_or (all_rows p es) j []
