-- The search of a pattern's rows by positions in a list of events, for every list, in order or not. The last event is chosen first, then the
-- others from the first on, so that the rows of one last event and those of the next are one search.
-- Assumes nothing: these are definitions.
use Rattle.std.specs.Prelude.{ℕ, zero, suc, ◌+◌, ◌-◌, Bool, true, not, ◌&&◌, ltb, List, [], ◌∷◌, ◌++◌, length, take, drop, Some, None, Option, ◌==◌, nat_le, nat_lt, slice_index, slice_set}
use Rattle.timeline.specs.declared.events.Event.{Event}
use Rattle.timeline.specs.Lists.{pick, any, every, each, none_of, run}
use Rattle.timeline.specs.Order.{nth}
use Rattle.patterns.specs.Patterns.{Step, Pattern, fits_step}
use Rattle.rows.specs.Known.{numbers}
use Rattle.rows.specs.Search.{Space, rest, chosen, forward}
use Rattle.rows.specs.declared.search.Cursor.{Cursor}
use Rattle.rows.specs.declared.search.Found.{Found}

-- an event that a never of the step forbids between
abbrev pub forbidden : List Event → Step → Event → Bool
forbidden es s f = any (λ n. fits_step es f n.kind n.tests) s.never

-- a position fits a step, given the positions of the steps before: by its event, within the window, and with nothing forbidden between
unfoldable pub fits : List Event → ℕ → Step → List ℕ → ℕ → Bool
fits h w s ps p =
    fits_step (each (nth h) ps) (nth h p) s.kind s.tests
    && pick (none_of ps) true
    (nat_le (nth h p).time ((nth h (slice_index ps 0)).time + w)
    && not (any (λ i. forbidden (each (nth h) ps) s (nth h i)) (run (suc (slice_index ps (length ps - 1))) (p - suc (slice_index ps (length ps - 1))))))

abbrev pub no_step : Step
no_step = record { kind = 0; tests = []; never = [] }

unfoldable pub step_of : List Step → ℕ → Step
step_of [] n = no_step
step_of (s ∷ ss) zero = s
step_of (s ∷ ss) (suc n) = step_of ss n

-- which position may be chosen at a level: the last event's by its kind alone while others have to be chosen before it can be tried whole
unfoldable pub row_ok : List Event → ℕ → List Step → List ℕ → ℕ → Bool
row_ok h w ss [] c = pick (length ss == 1) (fits h w (step_of ss 0) [] c) ((nth h c).kind == (step_of ss (length ss - 1)).kind)
row_ok h w ss (i ∷ pre) c =
    fits h w (step_of ss (length pre)) (drop 1 (forward (i ∷ pre))) c
    && pick (length pre + 2 == length ss) (fits h w (step_of ss (length ss - 1)) (drop 1 (forward (c ∷ i ∷ pre))) (slice_index (forward (i ∷ pre)) 0)) true

-- behind the one before
unfoldable pub row_lo : List ℕ → ℕ
row_lo [] = 0
row_lo (l ∷ []) = 0
row_lo (i ∷ j ∷ pre) = suc i

-- the last event before a bound, all others before the last event
unfoldable pub row_hi : ℕ → List ℕ → ℕ
row_hi upto [] = upto
row_hi upto (i ∷ pre) = slice_index (forward (i ∷ pre)) 0

abbrev pub space : List Event → Pattern → ℕ → Space
space h p upto = record { lo = row_lo; hi = row_hi upto; ok = row_ok h p.within p.steps }

-- the rows that still come after a cursor, by positions
unfoldable pub to_come : List Event → Pattern → ℕ → Cursor → List (List ℕ)
to_come h p upto c = rest (space h p upto) (length p.steps - 1 - c.depth) (chosen c.at c.depth) (slice_index c.at c.depth)

-- the events of a row by positions, in the order of the steps
abbrev pub row_of : List Event → List ℕ → List Event
row_of h path = each (nth h) (drop 1 (forward path)) ++ each (nth h) (take 1 (forward path))

-- six numbers, 0 where there are fewer
abbrev pub six : List ℕ → List ℕ
six xs = take 6 (xs ++ 0 ∷ 0 ∷ 0 ∷ 0 ∷ 0 ∷ 0 ∷ [])

-- the cursor behind a row: its positions, the one chosen last raised by one
abbrev pub behind : ℕ → List ℕ → Cursor
behind k at = record { depth = k - 1; at = slice_set at (k - 1) (slice_index at (k - 1) + 1) }

-- the first row that comes, and where the search goes on
unfoldable pub found_first : List Event → Pattern → Cursor → List (List ℕ) → Option Found
found_first h p c [] = None
found_first h p c (path ∷ more) =
    Some (record { numbers = six (numbers (row_of h path)); next = behind (length p.steps) (forward path ++ drop (length path) c.at) })

-- a cursor that a search can have: one to six steps, fewer levels chosen than there are steps, and positions within the bound
abbrev pub placed : ℕ → ℕ → ℕ → Cursor → Bool
placed n upto k c =
    (nat_le 1 k && nat_le k 6)
    && ((nat_le upto n && nat_lt c.depth k) && (nat_le (slice_index c.at c.depth) upto && every (λ j. ltb (slice_index c.at j) upto) (run 0 c.depth)))

-- what a call of the search answers
unfoldable pub next_found : List Event → Pattern → ℕ → Cursor → Option Found
next_found h p upto c = pick (placed (length h) upto (length p.steps) c) (found_first h p c (to_come h p upto c)) None
