-- Laws of the search, as statements: its rows are those of the definition, in their order, and a search that goes on has the rest to come.
-- The functions of searched.rt owe their proofs.
-- Assumes nothing.
use Rattle.std.specs.Prelude.{◌≡◌, ℕ, ◌-◌, ◌<◌, ◌≤◌, Bool, true, false, not, ◌&&◌, List, [], ◌∷◌, length, Some, None}
use Rattle.timeline.specs.declared.events.Event.{Event}
use Rattle.timeline.specs.Lists.{pick, those, each}
use Rattle.timeline.specs.Order.{before, sorted, nth, last_of, each_heard}
use Rattle.patterns.specs.Patterns.{Pattern}
use Rattle.rows.specs.Rows.{rows, all_rows}
use Rattle.rows.specs.Known.{numbers}
use Rattle.rows.specs.Search.{paths}
use Rattle.rows.specs.Finding.{row_ok, space, row_of, six, to_come, placed, next_found}
use Rattle.rows.specs.declared.search.Cursor.{Cursor}
use Rattle.rows.specs.declared.search.Found.{Found}

-- the same event: neither is before the other
abbrev pub same : Event → Event → Bool
same a b = not (before a b) && not (before b a)

-- one event is before all of some
abbrev pub Ahead : Event → List Event → Type 0
Ahead e [] = Unit
Ahead e (f ∷ fs) = (before e f ≡ true) × Ahead e fs

-- each event is before all behind it
abbrev pub Rises : List Event → Type 0
Rises [] = Unit
Rises (e ∷ es) = Ahead e es × Rises es

-- the rows that the search finds of one last event are, in order, the definition's that end with it
unfoldable pub RowsOfOne : Type 0
RowsOfOne =
    (p : Pattern) (h : List Event) (l upto : ℕ) → Rises h → 1 ≤ length p.steps → l < length h →
    each (row_of h) (pick (row_ok h p.within p.steps [] l) (paths (space h p upto) (length p.steps - 1) (l ∷ [])) [])
    ≡ those (λ r. same (nth h l) (last_of r)) (rows h p.within p.steps [])

-- all that it finds are all of the definition, in the order in which they are told
unfoldable pub RowsInOrder : Type 0
RowsInOrder =
    (p : Pattern) (es : List Event) → each_heard 0 es ≡ true → 1 ≤ length p.steps →
    each (row_of (sorted es)) (paths (space (sorted es) p (length es)) (length p.steps) []) ≡ all_rows p es

-- a search that begins with the last event at a
abbrev pub begin_at : ℕ → Cursor
begin_at a = record { depth = 0; at = a ∷ 0 ∷ 0 ∷ 0 ∷ 0 ∷ 0 ∷ [] }

-- a test of events that those at the positions from a on and below b pass, and no others
pub record Just (h : List Event) (q : Event → Bool) (a b : ℕ) : Type 0 where
  pub alike : (e f : Event) → same e f ≡ true → q e ≡ q f
  pub lower : (i : ℕ) → i < a → q (nth h i) ≡ false
  pub mid : (i : ℕ) → a ≤ i → i < b → q (nth h i) ≡ true
  pub upper : (i : ℕ) → b ≤ i → i < length h → q (nth h i) ≡ false

-- what is to come from one last event on and before another are the rows whose last event is one of these
unfoldable pub RestIs : Type 0
RestIs =
    (p : Pattern) (es : List Event) (q : Event → Bool) (a b : ℕ) → each_heard 0 es ≡ true → 1 ≤ length p.steps → a ≤ b → b ≤ length (sorted es) →
    Just (sorted es) q a b → each (row_of (sorted es)) (to_come (sorted es) p b (begin_at a)) ≡ those (λ r. q (last_of r)) (all_rows p es)

-- when a row was told, it was the first to come, and the others are to come after the new cursor; the search can be there
unfoldable pub GoesOn : Type 0
GoesOn =
    (h : List Event) (p : Pattern) (upto : ℕ) (c : Cursor) (f : Found) → next_found h p upto c ≡ Some f →
    (path : List ℕ)
    × (to_come h p upto c ≡ path ∷ to_come h p upto f.next)
    × (f.numbers ≡ six (numbers (row_of h path)))
    × (length path ≡ length p.steps)
    × (length c.at ≡ 6 → length f.next.at ≡ 6)
    × (placed (length h) upto (length p.steps) f.next ≡ true)

-- when none was told where a search can be, none is to come
unfoldable pub IsOver : Type 0
IsOver = (h : List Event) (p : Pattern) (upto : ℕ) (c : Cursor) → placed (length h) upto (length p.steps) c ≡ true → next_found h p upto c ≡ None → to_come h p upto c ≡ []
