-- Which patterns may be, and which events: 1 to 6 steps, up to four tests and two nevers each, tests with earlier steps only.
-- Assumes nothing: these are definitions.
use Rattle.std.specs.Prelude.{ℕ, suc, Bool, true, ◌&&◌, ltb, List, [], ◌∷◌, length, ◌==◌, nat_le, nat_lt}
use Rattle.timeline.specs.declared.events.Event.{Event}
use Rattle.timeline.specs.Lists.{pick, every, none_of}
use Rattle.patterns.specs.Patterns.{Test, Step, Pattern}

-- a test of step n: three fields, three signs, and a number below 2^62 or a field of an earlier step
abbrev pub a_test : ℕ → Test → Bool
a_test n t =
    (nat_lt t.what 3 && nat_lt t.sign 3)
    && pick (none_of t.step) (nat_lt t.other 4611686018427387904) (length t.step == 1 && (every (λ i. ltb i n) t.step && nat_lt t.other 3))

abbrev pub some_tests : ℕ → List Test → Bool
some_tests n ts = nat_le (length ts) 4 && every (a_test n) ts

-- kinds are below 2^16
abbrev pub a_step : ℕ → Step → Bool
a_step n s =
    (nat_lt s.kind 65536 && some_tests n s.tests)
    && (nat_le (length s.never) 2 && every (λ v. nat_lt v.kind 65536 && some_tests n v.tests) s.never)

unfoldable pub some_steps : ℕ → List Step → Bool
some_steps n [] = true
some_steps n (s ∷ ss) = a_step n s && some_steps (suc n) ss

-- window and lateness are below 2^40
abbrev pub a_pattern : Pattern → Bool
a_pattern p =
    (nat_le 1 (length p.steps) && nat_le (length p.steps) 6)
    && (some_steps 0 p.steps && (nat_lt p.within 1099511627776 && nat_lt p.late 1099511627776))

-- an event that can be told of: its kind is below 2^16, its other numbers below 2^62
abbrev pub an_event : Event → Bool
an_event e =
    (nat_lt e.time 4611686018427387904 && nat_lt e.kind 65536)
    && (nat_lt e.who 4611686018427387904 && nat_lt e.value 4611686018427387904)
