-- The listener's whole story, in the subject's own words: statements, whose proofs the functions of promise.rt owe.
-- Assumes nothing.
use Rattle.std.specs.Prelude.{◌≡◌, ℕ, ◌<◌, ◌≤◌, true, false, List, [], ◌∷◌, ◌++◌, length}
use Rattle.timeline.specs.declared.events.Event.{Event}
use Rattle.timeline.specs.Lists.{every, each}
use Rattle.timeline.specs.Ring.{capacity}
use Rattle.patterns.specs.Patterns.{Pattern}
use Rattle.patterns.specs.Limits.{a_pattern, an_event}
use Rattle.rows.specs.Rows.{all_rows}
use Rattle.rows.specs.Known.{known_rows, too_late, held, numbers, counted, with_number}
use Rattle.listener.specs.Engine.{begins, ends, Engine, runs}
use Rattle.listener.specs.Promise.{said}
use Rattle.listener.specs.Machine.{own}
use Rattle.listener.specs.Holding.{waiting_memory}

-- an engine was told these events one after the other, each time until it waited or said that the event is too late, and it never refused:
-- the memory then, and all rows that were told, one after the other
unfoldable pub Heard : Engine → List ℕ → List Event → List ℕ → List (List ℕ) → Type 0
Heard e m [] m₁ rs = (m₁ ≡ m) × (rs ≡ [])
Heard e m (f ∷ fs) m₁ rs =
    (k : ℕ) × (rest : List (List ℕ)) × ((runs k e m (said f) []).end < 2) × (rs ≡ (runs k e m (said f) []).rows_told ++ rest)
    × Heard e (runs k e m (said f) []).memory fs m₁ rest

-- the listener was given a pattern and then told these events
abbrev pub Listened : Pattern → List Event → List ℕ → List (List ℕ) → Type 0
Listened p fs m rs =
    (a_pattern p ≡ true) × (every an_event fs ≡ true) × (length fs ≤ 4294967296)
    × ((k : ℕ) × ((runs k own own.start (begins p) []).end ≡ 0) × Heard own (runs k own own.start (begins p) []).memory fs m rs)

-- what was told up to any point is what was known then, in order, each row once
unfoldable pub ToldWhatIsKnown : Type 0
ToldWhatIsKnown = (p : Pattern) (fs : List Event) (m : List ℕ) (rs : List (List ℕ)) → Listened p fs m rs → rs ≡ each numbers (known_rows p (counted p fs))

-- and when nothing more comes, all that was told from the first act to the last is exactly the rows of what counted, in their order
unfoldable pub ToldAll : Type 0
ToldAll =
    (p : Pattern) (fs : List Event) (m : List ℕ) (rs : List (List ℕ)) (k : ℕ) → Listened p fs m rs → (runs k own m ends []).end ≡ 2 →
    rs ++ (runs k own m ends []).rows_told ≡ each numbers (all_rows p (counted p fs))

-- while it waits it holds no more than could matter: its memory is that of the pattern, of how many events came, of the latest time and of
-- the events that have to be held, and every other word is 0
unfoldable pub HoldsJust : Type 0
HoldsJust =
    (p : Pattern) (fs : List Event) (m : List ℕ) (rs : List (List ℕ)) → Listened p fs m rs →
    (s : ℕ) × (s < capacity) × (m ≡ waiting_memory p (length fs) (counted p fs) s)

-- it refuses an event for want of room exactly where more than 8,192 would have to be held
unfoldable pub FullExactly : Type 0
FullExactly =
    (p : Pattern) (fs : List Event) (m : List ℕ) (rs : List (List ℕ)) (f : Event) → Listened p fs m rs → an_event f ≡ true → length fs < 4294967296 →
    too_late p (counted p fs) f ≡ false →
    (8192 < held p (counted p fs ++ with_number (length fs) f ∷ []) → (runs 1 own m (said f) []).end ≡ 18)
    × ((k : ℕ) → (runs k own m (said f) []).end ≡ 18 → 8192 < held p (counted p fs ++ with_number (length fs) f ∷ []))
