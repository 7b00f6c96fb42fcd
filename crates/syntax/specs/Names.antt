-- The steps by their names: which one has a letter.
-- Assumes nothing: these are definitions.
use Rattle.std.specs.Prelude.{ℕ, List, Option, ◌==◌}
use Rattle.std.specs.List.{position_from}

-- the place of a letter in a row of letters that are the names of the steps from n on
abbrev pub named_from : ℕ → ℕ → List ℕ → Option ℕ
named_from n b names = position_from (λ x. x == b) n names

abbrev pub step_named : ℕ → List ℕ → Option ℕ
step_named b names = named_from 0 b names
