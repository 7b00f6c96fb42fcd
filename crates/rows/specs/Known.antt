-- What can be known while events still come: heard_to, too_late, counted, known_rows, newly; and what has to be held for the rest.
-- Assumes nothing: these are definitions.
use Rattle.std.specs.Prelude.{ℕ, suc, ◌+◌, ◌-◌, Bool, ◌&&◌, leb, List, [], ◌∷◌, ◌++◌, length, drop, nat_le, nat_lt}
use Rattle.timeline.specs.declared.events.Event.{Event}
use Rattle.timeline.specs.Lists.{pick, those, each}
use Rattle.timeline.specs.Order.{last_of, latest}
use Rattle.patterns.specs.Patterns.{Pattern, named}
use Rattle.rows.specs.Rows.{all_rows}

-- heard to, the watermark: the greatest time of an event that counted, less the lateness. Nothing of an earlier time can still count
abbrev pub heard_to : Pattern → List Event → ℕ
heard_to p es = latest es - p.late

-- too late: of a time below what is heard to. Such an event takes a number and is forgotten
abbrev pub too_late : Pattern → List Event → Event → Bool
too_late p es e = nat_lt e.time (heard_to p es)

-- known: a row whose last event is not above what is heard to. Nothing that may still come can change it
abbrev pub known_rows : Pattern → List Event → List (List Event)
known_rows p es = those (λ r. leb (last_of r).time (heard_to p es)) (all_rows p es)

-- held: an event that could still stand in a row that isn't known yet, or between its events: its time and the window together are not
-- below what is heard to (a mark), and its kind is one that the pattern has
abbrev pub is_held : Pattern → ℕ → Event → Bool
is_held p mark e = nat_le mark (e.time + p.within) && named p e

-- how many have to be held
abbrev pub held : Pattern → List Event → ℕ
held p es = length (those (λ e. nat_le (heard_to p es) (e.time + p.within) && named p e) es)

-- a row told by its events' numbers
abbrev pub numbers : List Event → List ℕ
numbers es = each (λ e. e.heard) es

-- the rows that are known now but weren't before
abbrev pub newly : Pattern → List Event → List Event → List (List ℕ)
newly p old new = each numbers (drop (length (known_rows p old)) (known_rows p new))

abbrev pub with_number : ℕ → Event → Event
with_number n e = record { heard = n; time = e.time; kind = e.kind; who = e.who; value = e.value }

-- what counts of what came, numbered from n on, after es had counted: all that isn't too late when it comes
unfoldable pub counted_after : Pattern → ℕ → List Event → List Event → List Event
counted_after p n es [] = es
counted_after p n es (f ∷ fs) = counted_after p (suc n) (pick (too_late p es f) es (es ++ with_number n f ∷ [])) fs

abbrev pub counted : Pattern → List Event → List Event
counted p fs = counted_after p 0 [] fs
