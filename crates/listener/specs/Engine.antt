-- A machine that is told something and does one act, and what a run of it is: ToldIt, Act, Stepped, Engine, runs.
-- Assumes nothing: these are definitions.
use Rattle.std.specs.Prelude.{ℕ, zero, suc, ◌+◌, Bool, ltb, List, [], ◌∷◌, ◌++◌, nat_lt}
use Rattle.timeline.specs.Lists.{pick, every}
use Rattle.patterns.specs.Patterns.{Pattern}

-- what the machine is told
pub data ToldIt : Type 0 where
  begins : Pattern → ToldIt
  comes : ℕ → ℕ → ℕ → ℕ → ToldIt  -- an event: time, kind, who, value
  ends : ToldIt  -- nothing more comes
  next : ToldIt  -- go on

-- what it does then
pub data Act : Type 0 where
  tells : List ℕ → Act  -- a row that fits, each event by how many were heard of before it
  waits : Act
  late : Act  -- what came is too late, and forgotten
  over : Act
  refused : ℕ → Act

pub record Stepped : Type 0 where
  pub memory : List ℕ
  pub act : Act

pub record Engine : Type 0 where
  pub start : List ℕ
  pub step : List ℕ → ToldIt → Stepped

-- how a run went: the memory then, the rows that were told, and how it ended: 0 it waits, 1 too late, 2 over, 10 and the number of a
-- refusal (1001 if that is 900 or more), 1000 still at it
pub record Ran : Type 0 where
  pub memory : List ℕ
  pub rows_told : List (List ℕ)
  pub end : ℕ

abbrev pub ran : List ℕ → List (List ℕ) → ℕ → Ran
ran m rs e = record { memory = m; rows_told = rs; end = e }

unfoldable pub one_act : (List ℕ → List (List ℕ) → Ran) → List (List ℕ) → List ℕ → Act → Ran
one_act go rs m (tells r) = go m (rs ++ r ∷ [])
one_act go rs m waits = ran m rs 0
one_act go rs m late = ran m rs 1
one_act go rs m over = ran m rs 2
one_act go rs m (refused k) = ran m rs (pick (nat_lt k 900) (10 + k) 1001)

-- the machine is told something, and to go on as long as it tells rows, for at most so many acts
unfoldable pub runs : ℕ → Engine → List ℕ → ToldIt → List (List ℕ) → Ran
runs zero e m ev rs = ran m rs 1000
runs (suc n) e m ev rs = one_act (λ m₁ rs₁. runs n e m₁ next rs₁) rs (e.step m ev).memory (e.step m ev).act

-- every number fits 64 bits
unfoldable pub all_small : List ℕ → Bool
all_small ms = every (λ m. ltb m 18446744073709551616) ms
