-- A row of numbers as text: in decimal, with a space between.
-- Assumes nothing: these are definitions.
use Rattle.std.specs.Prelude.{ℕ, List, [], ◌∷◌, ◌++◌, codes, decimal}
use Rattle.std.specs.List.{flat_map}

abbrev pub after_space : ℕ → List ℕ
after_space n = codes " " ++ decimal n

abbrev pub spaced : List ℕ → List ℕ
spaced [] = []
spaced (n ∷ ns) = decimal n ++ flat_map after_space ns
