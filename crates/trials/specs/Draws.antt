-- What is drawn of a generator's state, and the state after it.
use Rattle.std.specs.Prelude.{ℕ, ◌+◌, ◌-◌, ◌*◌, ◌%◌, ◌^◌, ◌==◌, if◌then◌else◌, bit_xor}
use Rattle.rand_xoshiro.specs.SplitMix64.{mix_u64}

abbrev pub drawn : ℕ → ℕ × ℕ
drawn = mix_u64

-- a number below a bound; 0 where the bound is 0, and then nothing is drawn
abbrev pub drawn_below : ℕ → ℕ → ℕ × ℕ
drawn_below bound state = if bound == 0 then (0, state) else ((drawn state).0 % bound, (drawn state).1)

-- what a state grows by from one word to the next
abbrev pub stride : ℕ
stride = 0x9e3779b97f4a7c15

-- the word that the generator gives as its state comes to be a number
abbrev pub word_of_state : ℕ → ℕ
word_of_state state = (drawn ((state + (2 ^ 64 - stride)) % 2 ^ 64)).0

-- where the numbers of a case begin
abbrev pub state_of_case : ℕ → ℕ → ℕ
state_of_case seed number = bit_xor (word_of_state seed) (word_of_state (number * stride % 2 ^ 64))
