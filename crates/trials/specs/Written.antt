-- How counts are written.
use Rattle.std.specs.Prelude.{ℕ, List, ◌++◌, codes, decimal}
use Rattle.std.specs.List.{flat_map}

abbrev pub after_space : ℕ → List ℕ
after_space n = codes " " ++ decimal n

-- each number, with a space in front
abbrev pub after_spaces : List ℕ → List ℕ
after_spaces ns = flat_map after_space ns
