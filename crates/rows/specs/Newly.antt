-- What becomes known, from what is held: statements; the functions of laws.rt owe their proofs.
-- Assumes nothing.
use Rattle.std.specs.Prelude.{◌≡◌, ℕ, ◌+◌, ◌≤◌, Bool, true, false, not, ◌&&◌, List, [], ◌∷◌, ◌++◌, length, drop, nat_le, nat_lt}
use Rattle.timeline.specs.declared.events.Event.{Event}
use Rattle.timeline.specs.Lists.{those}
use Rattle.timeline.specs.Order.{before, last_of, each_heard}
use Rattle.patterns.specs.Patterns.{Pattern}
use Rattle.rows.specs.Rows.{all_rows}
use Rattle.rows.specs.Known.{heard_to, too_late, known_rows, is_held}

-- settled as f comes: an event before f and not above what was heard to (the mark). The rows that end with such were known already
abbrev pub settled : ℕ → Event → Event → Bool
settled mark f e = nat_le e.time mark && before e f

-- fresh as f comes: a row that ends not above the new mark, with f itself, with an event behind it or with one above the old mark
abbrev pub fresh : ℕ → ℕ → Event → List Event → Bool
fresh old new f r = nat_le (last_of r).time new && not (settled old f (last_of r))

-- what becomes known by an event is, in order, what is fresh among the rows of what was held before it and itself
unfoldable pub NewlyHeld : Type 0
NewlyHeld =
    (p : Pattern) (es : List Event) (f : Event) → 1 ≤ length p.steps → each_heard 0 (es ++ f ∷ []) ≡ true → too_late p es f ≡ false →
    drop (length (known_rows p es)) (known_rows p (es ++ f ∷ [])) ≡
    those (fresh (heard_to p es) (heard_to p (es ++ f ∷ [])) f) (all_rows p (those (is_held p (heard_to p es)) (es ++ f ∷ [])))

-- when nothing more comes, what isn't known yet is, in order, the rows of what is held that end above what is heard to
unfoldable pub EndsHeld : Type 0
EndsHeld =
    (p : Pattern) (es : List Event) →
    drop (length (known_rows p es)) (all_rows p es) ≡
    those (λ r. nat_lt (heard_to p es) (last_of r).time) (all_rows p (those (is_held p (heard_to p es)) es))

-- what is held under a later mark is held under an earlier one: nothing that was let go is wanted again
unfoldable pub HeldLater : Type 0
HeldLater =
    (p : Pattern) (old new : ℕ) (es : List Event) → old ≤ new → those (is_held p new) (those (is_held p old) es) ≡ those (is_held p new) es

-- an event that isn't too late is not let go as it comes, whatever the window
unfoldable pub NeverStale : Type 0
NeverStale = (p : Pattern) (es : List Event) (f : Event) → too_late p es f ≡ false → nat_le (heard_to p (es ++ f ∷ [])) (f.time + p.within) ≡ true
