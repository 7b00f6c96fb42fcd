-- What a listener promises, for any engine: Steady, Right, Whole. Each is a statement, whose proof is owed by a function's contract.
-- Assumes nothing.
use Rattle.std.specs.Prelude.{◌≡◌, ℕ, suc, ◌<◌, ◌≤◌, true, false, ◌⊎◌, List, [], ◌∷◌, ◌++◌, length, drop, nat_eq}
use Rattle.timeline.specs.declared.events.Event.{Event}
use Rattle.timeline.specs.Lists.{every, each}
use Rattle.patterns.specs.Patterns.{Pattern}
use Rattle.patterns.specs.Limits.{a_pattern, an_event}
use Rattle.rows.specs.Rows.{all_rows}
use Rattle.rows.specs.Known.{known_rows, too_late, held, numbers, newly, with_number}
use Rattle.listener.specs.Engine.{ToldIt, begins, comes, ends, Engine, runs, all_small}

-- the memory is all 0 at the start; it never grows, nor do its numbers beyond 64 bits
unfoldable pub Steady : Engine → Type 0
Steady e =
    (length e.start ≤ 262144) × (every (λ m. nat_eq m 0) e.start ≡ true)
    × ((m : List ℕ) (ev : ToldIt) → (length (e.step m ev).memory ≡ length m) × (all_small m ≡ true → all_small (e.step m ev).memory ≡ true))

abbrev pub said : Event → ToldIt
said e = comes e.time e.kind e.who e.value

-- THE MAIN PROMISE, walked through whatever comes, after es had counted and n events had come: for each event it tells the rows that are
-- known now and weren't before, in order, and waits; or says that the event is too late. It may refuse for want of room, with 8, only if more
-- than 8,192 have to be held, before it tells a row, and then it is over. When nothing more comes it tells all that is left
unfoldable pub Right : Engine → Pattern → List ℕ → ℕ → List Event → List Event → Type 0
Right e p m n es [] =
    (k : ℕ) × ((runs k e m ends []).end ≡ 2) × ((runs k e m ends []).rows_told ≡ each numbers (drop (length (known_rows p es)) (all_rows p es)))
Right e p m n es (f ∷ fs) =
    (k : ℕ)
    × ((too_late p es f ≡ true →
    ((runs k e m (said f) []).end ≡ 1) × ((runs k e m (said f) []).rows_told ≡ []) × Right e p (runs k e m (said f) []).memory (suc n) es fs)
    × (too_late p es f ≡ false →
    (((runs k e m (said f) []).end ≡ 0) × ((runs k e m (said f) []).rows_told ≡ newly p es (es ++ with_number n f ∷ []))
    × Right e p (runs k e m (said f) []).memory (suc n) (es ++ with_number n f ∷ []) fs)
    ⊎ (((runs k e m (said f) []).end ≡ 18) × ((runs k e m (said f) []).rows_told ≡ []) × (8192 < held p (es ++ with_number n f ∷ [])))))

-- all of it: steady; every pattern is waited with, and is listened for rightly whatever comes; what is no pattern is refused with 1
unfoldable pub Whole : Engine → Type 0
Whole e =
    Steady e
    × ((p : Pattern) (fs : List Event) → a_pattern p ≡ true → every an_event fs ≡ true → length fs ≤ 4294967296 →
    (k : ℕ) × ((runs k e e.start (begins p) []).end ≡ 0) × ((runs k e e.start (begins p) []).rows_told ≡ [])
    × Right e p (runs k e e.start (begins p) []).memory 0 [] fs)
    × ((p : Pattern) → a_pattern p ≡ false → (k : ℕ) × ((runs k e e.start (begins p) []).end ≡ 11) × ((runs k e e.start (begins p) []).rows_told ≡ []))
