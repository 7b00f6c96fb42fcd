-- A search through positions, level by level: the list of ways still to come after a place of it. It knows nothing of events.
-- Assumes nothing: these are definitions.
use Rattle.std.specs.Prelude.{◌≡◌, ℕ, zero, suc, ◌-◌, Bool, true, List, [], ◌∷◌, ◌++◌, slice_index}
use Rattle.timeline.specs.Lists.{those, flat, run}

-- what may be chosen at the next level, given the positions chosen so far, newest first: from where, up to where, and which
pub record Space : Type 0 where
  pub lo : List ℕ → ℕ
  pub hi : List ℕ → ℕ
  pub ok : List ℕ → ℕ → Bool

-- all ways to choose n levels more
unfoldable pub paths : Space → ℕ → List ℕ → List (List ℕ)
paths S zero pre = pre ∷ []
paths S (suc n) pre = flat (λ i. paths S n (i ∷ pre)) (those (S.ok pre) (run (S.lo pre) (S.hi pre - S.lo pre)))

-- a position that leads nowhere: it may not be chosen, or there is no way behind it
abbrev pub Barren : Space → ℕ → List ℕ → ℕ → Type 0
Barren S n pre c = S.ok pre c ≡ true → paths S n (c ∷ pre) ≡ []

-- all ways to choose a level, from c on, and then n more
unfoldable pub from : Space → ℕ → List ℕ → ℕ → List (List ℕ)
from S n pre c = flat (λ i. paths S n (i ∷ pre)) (those (S.ok pre) (run c (S.hi pre - c)))

-- what comes after a place: from there on, then at the level before from behind what was chosen there, and so on
unfoldable pub rest : Space → ℕ → List ℕ → ℕ → List (List ℕ)
rest S n [] c = from S n [] c
rest S n (i ∷ pre) c = from S n (i ∷ pre) c ++ rest S (suc n) pre (suc i)

-- the first d positions of an array, newest first
unfoldable pub chosen : List ℕ → ℕ → List ℕ
chosen at zero = []
chosen at (suc d) = slice_index at d ∷ chosen at d

-- oldest first again
unfoldable pub forward : List ℕ → List ℕ
forward [] = []
forward (x ∷ xs) = forward xs ++ x ∷ []
