-- What a pattern that may be says of each of its parts.
use Rattle.std.proofs.Common.{◌≡◌, ℕ, suc, ◌+◌, ◌≤◌, Bool, true, ◌&&◌, ltb, leb, List, [], ◌∷◌, length, arith}
use Rattle.std.proofs.lemmas.Bool.{and_parts, leb-true}
use Rattle.timeline.specs.Lists.{every}
use Rattle.timeline.proofs.Lists.{All}
use Rattle.patterns.specs.Patterns.{Never, Step, Pattern}
use Rattle.patterns.specs.Limits.{a_test, some_tests, a_step, some_steps, a_pattern}
use Rattle.patterns.specs.Reading.{a_never, some_nevers}

each_of : {A : Type 0} (f : A → Bool) (xs : List A) → every f xs ≡ true → All (λ x. f x ≡ true) xs
unfolding every
each_of f [] e = tt
each_of f (x ∷ xs) e = let h = and_parts (f x) (every f xs) e in (h.0, each_of f xs h.1)

-- so many at most
abbrev pub Few : {A : Type 0} → ℕ → (A → Bool) → List A → Type 0
Few most f xs = (length xs ≤ most) × All (λ x. f x ≡ true) xs

pub few : {A : Type 0} (most : ℕ) (f : A → Bool) (xs : List A) → (leb (length xs) most && every f xs) ≡ true → Few most f xs
few most f xs e = let h = and_parts (leb (length xs) most) (every f xs) e in (leb-true _ _ h.0, each_of f xs h.1)

-- a step in its place, one of six
abbrev pub Placed : Step → Type 0
Placed s = (n : ℕ) × (n ≤ 6) × (a_step n s ≡ true)

steps_placed : (n : ℕ) (ss : List Step) → n + length ss ≤ 6 → some_steps n ss ≡ true → All Placed ss
unfolding some_steps
steps_placed n [] l e = tt
steps_placed n (s ∷ ss) l e = let h = and_parts (a_step n s) (some_steps (suc n) ss) e in ((n, omega arith, h.0), steps_placed (suc n) ss (omega arith) h.1)

-- the parts of a never, a step and a pattern
pub never_parts : (n : ℕ) (v : Never) → a_never n v ≡ true → (ltb v.kind 65536 ≡ true) × Few 4 (a_test n) v.tests
never_parts n v e = let h = and_parts (ltb v.kind 65536) (some_tests n v.tests) e in (h.0, few 4 (a_test n) v.tests h.1)

pub step_parts : (n : ℕ) (s : Step) → a_step n s ≡ true → (ltb s.kind 65536 ≡ true) × Few 4 (a_test n) s.tests × Few 2 (a_never n) s.never
step_parts n s e =
    let h = and_parts (ltb s.kind 65536 && some_tests n s.tests) (some_nevers n s.never) e in
    let g = and_parts (ltb s.kind 65536) (some_tests n s.tests) h.0 in
    (g.0, few 4 (a_test n) s.tests g.1, few 2 (a_never n) s.never h.1)

pub pattern_parts : (p : Pattern) → a_pattern p ≡ true
    → (length p.steps ≤ 6) × All Placed p.steps × (ltb p.within 1099511627776 ≡ true) × (ltb p.late 1099511627776 ≡ true)
pattern_parts p e =
    let h = and_parts (leb 1 (length p.steps) && leb (length p.steps) 6) _ e in
    let g = and_parts (leb 1 (length p.steps)) (leb (length p.steps) 6) h.0 in
    let s = and_parts (some_steps 0 p.steps) _ h.1 in
    let t = and_parts (ltb p.within 1099511627776) (ltb p.late 1099511627776) s.1 in
    let l = leb-true _ _ g.1 in
    (l, steps_placed 0 p.steps (omega arith) s.0, t.0, t.1)
