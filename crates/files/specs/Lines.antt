-- Lines of a text: the last one of some bytes, and where a line ends.
-- Assumes nothing: these are definitions.
use Rattle.std.specs.Prelude.{ℕ, zero, suc, ◌+◌, List, [], ◌∷◌, ◌==◌, slice_index}
use Rattle.timeline.specs.Lists.{pick}
use Rattle.syntax.specs.Words.{white}
use Rattle.files.specs.declared.lines.Line.{Line}

-- the line behind one more byte, of which the place is i: a line feed begins another
abbrev pub line_past : Line → ℕ → ℕ → Line
line_past l i b = pick (b == 10) (record { number = l.number + 1; start = i + 1 }) l

-- the line in which the bytes from the i-th on end, where the one in front of them is known
unfoldable pub line_behind : Line → ℕ → List ℕ → Line
line_behind l i [] = l
line_behind l i (b ∷ bs) = line_behind (line_past l i b) (i + 1) bs

-- the line in which some bytes end: lines are numbered from 1 on
abbrev pub line_of : List ℕ → Line
line_of bytes = line_behind (record { number = 1; start = 0 }) 0 bytes

-- how many bytes stand in front of the first line feed
unfoldable pub line_rest : List ℕ → ℕ
line_rest [] = 0
line_rest (b ∷ bs) = pick (b == 10) 0 (1 + line_rest bs)

-- of so many bytes, how many there are without the white ones at their end
unfoldable pub without_white : List ℕ → ℕ → ℕ
without_white bytes zero = 0
without_white bytes (suc n) = pick (white (slice_index bytes n)) (without_white bytes n) (suc n)
