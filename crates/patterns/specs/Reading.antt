-- What stands first in a row of numbers, a part of a pattern, and what is behind it; and what reading one answers.
-- Assumes nothing: these are definitions.
use Rattle.std.specs.Prelude.{◌≡◌, ℕ, zero, suc, ◌*◌, Bool, true, false, ◌&&◌, List, [], ◌∷◌, length, drop, Some, None, Ok, Err, Option, Result, ◌≢◌, nat_le, nat_lt, slice_index}
use Rattle.std.specs.Borrow.{Bor}
use Rattle.timeline.specs.Lists.{every}
use Rattle.patterns.specs.Patterns.{Test, Never, Step}
use Rattle.patterns.specs.Limits.{a_test, some_tests, a_pattern}
use Rattle.patterns.specs.Codes.{test_of}
use Rattle.patterns.specs.Numbers.{tests_in, nevers_in, nevers_long, pattern_in}
use Rattle.patterns.specs.Kept.{pattern_cells, kept_pattern}
use Rattle.patterns.specs.declared.comparing.Comparison.{Comparison}
use Rattle.patterns.specs.declared.keeping.Refusal.{Refusal}
use Rattle.patterns.specs.declared.keeping.Refusal.TheVariants.{NoPattern, NotAsLong}

-- the first number of a row, 0 where it is at its end, and what is behind it
abbrev pub First : List ℕ → ℕ × Bor (List ℕ) → Type 0
First row r = (r.0 ≡ slice_index row 0) × (r.1.now ≡ drop 1 row)

-- the tests that a row begins with, their count in front, and what is behind them
abbrev pub first_tests : List ℕ → List Test
first_tests row = tests_in (slice_index row 0) (drop 1 row)

abbrev pub behind_tests : List ℕ → List ℕ
behind_tests row = drop (5 * slice_index row 0) (drop 1 row)

-- a never: its kind and its tests
abbrev pub first_never : List ℕ → Never
first_never row = record { kind = slice_index row 0; tests = first_tests (drop 1 row) }

abbrev pub behind_never : List ℕ → List ℕ
behind_never row = behind_tests (drop 1 row)

-- nevers: their count and they
abbrev pub first_nevers : List ℕ → List Never
first_nevers row = nevers_in (slice_index row 0) (drop 1 row)

abbrev pub behind_nevers : List ℕ → List ℕ
behind_nevers row = drop (nevers_long (slice_index row 0) (drop 1 row)) (drop 1 row)

-- a step: its kind, its tests, its nevers
abbrev pub first_step : List ℕ → Step
first_step row = record { kind = slice_index row 0; tests = first_tests (drop 1 row); never = first_nevers (behind_never row) }

abbrev pub behind_step : List ℕ → List ℕ
behind_step row = behind_nevers (behind_never row)

-- which nevers step n may have
abbrev pub a_never : ℕ → Never → Bool
a_never n v = nat_lt v.kind 65536 && some_tests n v.tests

abbrev pub some_nevers : ℕ → List Never → Bool
some_nevers n vs = nat_le (length vs) 2 && every (a_never n) vs

-- which window, lateness and number of steps a pattern may have
abbrev pub a_head : ℕ → ℕ → ℕ → Bool
a_head within late count = (nat_lt within 1099511627776 && nat_lt late 1099511627776) && (nat_le 1 count && nat_le count 6)

-- what a test of step n may compare with: a field of an earlier step, or a number below 2^62
abbrev pub other_may : ℕ → Option ℕ → ℕ → Bool
other_may n None o = nat_lt o 4611686018427387904
other_may n (Some i) o = nat_lt i n && nat_lt o 3

-- what reading a test of step n answers: that it may not be, or it
abbrev pub ReadsTest : ℕ → Test → Option Comparison → Type 0
ReadsTest n t None = a_test n t ≡ false
ReadsTest n t (Some c) = (a_test n t ≡ true) × (test_of c ≡ t)

-- what reading a part answers: that it may not be; or it, and what is behind it
abbrev pub Reads : {T : Type 0} → Bool → T → List ℕ → Option (T × Bor (List ℕ)) → Type 0
Reads ok part behind None = ok ≡ false
Reads ok part behind (Some r) = (ok ≡ true) × (r.0 ≡ part) × (r.1.now ≡ behind)

-- the same of a whole pattern
abbrev pub ReadsWhole : Bool → List ℕ → Option (List ℕ) → Type 0
ReadsWhole ok words None = ok ≡ false
ReadsWhole ok words (Some r) = (ok ≡ true) × (r ≡ words)

-- a kind of part, of the row that begins with one: whether it may be where so many are before it, it, and what is behind it
pub record Part (T : Type 0) : Type 0 where
  pub may : ℕ → List ℕ → Bool
  pub part : List ℕ → T
  pub behind : List ℕ → List ℕ

module _ {T : Type 0} (kind : Part T) where
  -- so many of a kind, one behind the other
  unfoldable pub all_may : ℕ → ℕ → List ℕ → Bool
  all_may i zero row = true
  all_may i (suc n) row = kind.may i row && all_may (suc i) n (kind.behind row)

  unfoldable pub all_parts : ℕ → List ℕ → List T
  all_parts zero row = []
  all_parts (suc n) row = kind.part row ∷ all_parts n (kind.behind row)

  unfoldable pub behind_all : ℕ → List ℕ → List ℕ
  behind_all zero row = row
  behind_all (suc n) row = behind_all n (kind.behind row)

  -- answers that are what reading one of a kind answers
  abbrev pub IsRead : (Bor (List ℕ) → ℕ → Option (T × Bor (List ℕ)) → Type 0) → Type 0
  IsRead answers = (row : Bor (List ℕ)) (i : ℕ) (r : Option (T × Bor (List ℕ))) → answers row i r → Reads (kind.may i row.now) (kind.part row.now) (kind.behind row.now) r

  -- what reading so many answers: that one may not be; or what is behind them, and they are there
  abbrev pub ReadsAll : ℕ → List ℕ → List T → Option (Bor (List ℕ)) → Type 0
  ReadsAll n row after None = all_may 0 n row ≡ false
  ReadsAll n row after (Some left) = (all_may 0 n row ≡ true) × (after ≡ all_parts n row) × (left.now ≡ behind_all n row)

-- what keeping a row in a lent slice answers, and what the slice holds after it
abbrev pub Keeps : List ℕ → List ℕ → List ℕ → Result (Unit {0}) Refusal → Type 0
Keeps row before after (Ok done) =
    (length before ≡ 405) × (a_pattern (pattern_in row) ≡ true) × (after ≡ pattern_cells (pattern_in row)) × (kept_pattern after ≡ pattern_in row)
Keeps row before after (Err NoPattern) = (length before ≡ 405) × (a_pattern (pattern_in row) ≡ false) × (after ≡ before)
Keeps row before after (Err NotAsLong) = (length before ≢ 405) × (after ≡ before)
