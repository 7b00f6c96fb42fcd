-- Where a time belongs in a rising row of times, and the smaller of two counts.
-- Assumes nothing: these are definitions.
use Rattle.std.specs.Prelude.{ℕ, ◌+◌, Bool, true, ◌&&◌, List, [], ◌∷◌, nat_le, nat_lt, Result, Ok, Err}
use Rattle.timeline.specs.Lists.{pick}
use Rattle.timeline.specs.declared.places.NotRising.{NotRising}

abbrev pub smaller : ℕ → ℕ → ℕ
smaller a b = pick (nat_lt a b) a b

-- how many times of a row are not above a time
unfoldable pub not_above : ℕ → List ℕ → ℕ
not_above t [] = 0
not_above t (x ∷ xs) = pick (nat_lt t x) 0 1 + not_above t xs

-- no time of a row is below the one in front of it
unfoldable pub rising : List ℕ → Bool
rising [] = true
rising (x ∷ []) = true
rising (x ∷ y ∷ xs) = nat_le x y && rising (y ∷ xs)

-- a row that does not rise is refused with 1
abbrev pub refusal_number : NotRising → ℕ
refusal_number r = 1

-- the place behind all times that are not above; refused if the row does not rise
unfoldable pub place_of : ℕ → List ℕ → Result ℕ NotRising
place_of t xs = pick (rising xs) (Ok (not_above t xs)) (Err (record {}))
