-- How a step of the listener is told to the world outside: what it is told by numbers, and the answer to each act.
-- Assumes nothing: these are definitions.
use Rattle.std.specs.Prelude.{◌≡◌, ℕ, ◌<◌, ◌≤◌, Bool, true, false, ◌&&◌, List, ◌++◌, length, drop, Result, Ok, Err, IsErrAnd, MatchResult, ◌==◌, nat_le, slice_index}
use Rattle.timeline.specs.Lists.{pick}
use Rattle.patterns.specs.Numbers.{pattern_in}
use Rattle.listener.specs.Engine.{ToldIt, begins, comes, ends, next, Act, tells, waits, late, over, refused, Stepped}
use Rattle.listener.specs.Machine.{own}
use Rattle.listener.specs.declared.acts.Told.{Told}
use Rattle.listener.specs.declared.acts.Told.TheVariants.{Row, Waits, Late, Over}
use Rattle.listener.specs.declared.acts.Refusal.{Refusal}
use Rattle.listener.specs.declared.acts.Refusal.TheVariants.{Misfit, NoPattern, OutOfTurn, NoRoom}
use Rattle.listener.specs.declared.acts.Call.{Call}
use Rattle.listener.specs.declared.acts.Call.TheVariants.{Pattern as PatternCall, Event as EventCall, End as EndCall, Next as NextCall}

-- the number of each refusal
abbrev pub refusal_number : Refusal → ℕ
refusal_number Misfit = 0
refusal_number NoPattern = 1
refusal_number OutOfTurn = 2
refusal_number NoRoom = 8

-- the number of each call
abbrev pub call_number : Call → ℕ
call_number PatternCall = 0
call_number EventCall = 1
call_number EndCall = 2
call_number NextCall = 3

-- a number is a call's, or is above them all, and then it is a misfit
abbrev pub SaysCall : ℕ → Result Call Refusal → Type 0
SaysCall number r = MatchResult r (λ call. call_number call ≡ number) (λ refusal. (refusal ≡ Misfit) × (3 < number))

-- 0 a pattern, 1 an event, four numbers, 2 nothing more, 3 go on
unfoldable pub told_of : ℕ → List ℕ → ToldIt
told_of k xs =
    pick (k == 0) (begins (pattern_in xs))
    (pick (k == 1) (comes (slice_index xs 0) (slice_index xs 1) (slice_index xs 2) (slice_index xs 3)) (pick (k == 2) ends next))

-- the answer to an act, and what the lent row holds then: a row that is told stands in front of it
unfoldable pub ActTold : Act → Result Told Refusal → (out out₁ : List ℕ) → Type 0
ActTold (tells r) t out out₁ = (t ≡ Ok (Row (length r))) × (length r ≤ 6) × (out₁ ≡ r ++ drop (length r) out)
ActTold waits t out out₁ = (t ≡ Ok Waits) × (out₁ ≡ out)
ActTold late t out out₁ = (t ≡ Ok Late) × (out₁ ≡ out)
ActTold over t out out₁ = (t ≡ Ok Over) × (out₁ ≡ out)
ActTold (refused k) t out out₁ = IsErrAnd t (λ refusal. refusal_number refusal ≡ k) × (out₁ ≡ out)

-- a part of a step did what the machine does: the memory and the answer are its
pub record Did (st : Stepped) (t : Result Told Refusal) (memory₁ out out₁ : List ℕ) : Type 0 where
  pub memory : memory₁ ≡ st.memory
  pub told : ActTold st.act t out out₁

-- one step: for memories of the listener's own length, rows of up to 1,024 numbers, and a lent row of six or more; for others it is refused
-- as a misfit, and nothing is changed
unfoldable pub StepSays : (memory : List ℕ) (kind : ℕ) (row out : List ℕ) → Bool → Result Told Refusal → (memory₁ out₁ : List ℕ) → Type 0
StepSays memory kind row out true t memory₁ out₁ =
    (memory₁ ≡ (own.step memory (told_of kind row)).memory) × ActTold (own.step memory (told_of kind row)).act t out out₁
StepSays memory kind row out false t memory₁ out₁ = (t ≡ Err Misfit) × (memory₁ ≡ memory) × (out₁ ≡ out)

unfoldable pub step_fits : (memory : List ℕ) (kind : ℕ) (row out : List ℕ) → Bool
step_fits memory kind row out =
    (length memory == length own.start) && (nat_le kind 3 && (nat_le (length row) 1024 && nat_le 6 (length out)))
