-- Laws of rows, as statements; the functions of laws.rt owe their proofs.
-- Assumes nothing.
use Rattle.std.specs.Prelude.{◌≡◌, ◌+◌, ◌≤◌, Bool, true, false, ◌&&◌, List, [], ◌∷◌, ◌++◌, length, nat_le, nat_lt}
use Rattle.timeline.specs.declared.events.Event.{Event}
use Rattle.timeline.specs.Lists.{those}
use Rattle.timeline.specs.Order.{before, sorted, last_of, each_heard}
use Rattle.patterns.specs.Patterns.{Pattern, named}
use Rattle.rows.specs.Rows.{told_before, all_rows}
use Rattle.rows.specs.Known.{heard_to, too_late, known_rows}

-- what is known stays known, and comes first: nothing that is heard of later changes it
unfoldable pub KnownStays : Type 0
KnownStays =
    (p : Pattern) (es : List Event) (f : Event) → each_heard 0 (es ++ f ∷ []) ≡ true → too_late p es f ≡ false →
    (more : List (List Event)) × (known_rows p (es ++ f ∷ []) ≡ known_rows p es ++ more)

-- in which order one hears of two events does not matter, if one is before the other in time
unfoldable pub SortedRight : Type 0
SortedRight = (a b : Event) (fs : List Event) → before a b ≡ true → sorted (a ∷ b ∷ fs) ≡ sorted (b ∷ a ∷ fs)

-- each row is told before the next
unfoldable pub rising : List (List Event) → Bool
rising [] = true
rising (r ∷ []) = true
rising (r ∷ s ∷ rs) = told_before r s && rising (s ∷ rs)

-- rows are told in order, each once
unfoldable pub ToldOnce : Type 0
ToldOnce = (p : Pattern) (es : List Event) → each_heard 0 es ≡ true → 1 ≤ length p.steps → rising (all_rows p es) ≡ true

-- what needn't be held doesn't matter: rows that end after what is heard to are found without it
unfoldable pub HeldEnough : Type 0
HeldEnough =
    (p : Pattern) (es : List Event) → each_heard 0 es ≡ true → 1 ≤ length p.steps →
    those (λ r. nat_lt (heard_to p es) (last_of r).time) (all_rows p es) ≡
    those (λ r. nat_lt (heard_to p es) (last_of r).time) (all_rows p (those (λ e. nat_le (heard_to p es) (e.time + p.within) && named p e) es))

-- what is heard to never falls
unfoldable pub Grows : Type 0
Grows = (p : Pattern) (es : List Event) (f : Event) → heard_to p es ≤ heard_to p (es ++ f ∷ [])
