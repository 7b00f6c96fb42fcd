-- The steps that words mean, one by one: a search reads the s-th step where its words stand.
use Rattle.std.proofs.Common.{◌≡◌, ℕ, zero, suc, ◌+◌, ◌<◌, ◌≤◌, List, length, get_or, refl, ap, ◌∙◌, arith}
use Rattle.std.proofs.lemmas.Bool.Decides.{nat_tests}
use Rattle.timeline.specs.Lists.{any, each, run}
use Rattle.patterns.specs.Patterns.{Step}
use Rattle.patterns.specs.Named.{step_names, kind_named}
use Rattle.patterns.specs.Kept.{kept_step, kept_count, kept_pattern}

pub length_run : {A : Type 0} (f : ℕ → A) (i n : ℕ) → length (each f (run i n)) ≡ n
unfolding each run
length_run f i zero = refl
length_run f i (suc n) = ap suc (length_run f (suc i) n)

getD_run : {A : Type 0} (f : ℕ → A) (i n s : ℕ) (d : A) → s < n → get_or (each f (run i n)) s d ≡ f (i + s)
unfolding each run
getD_run f i zero s d l = absurd (omega arith)
getD_run f i (suc n) zero d l = let e : i + 0 ≡ i = omega arith in rw e refl
getD_run f i (suc n) (suc s) d l = let e : i + suc s ≡ suc i + s = omega arith in getD_run f (suc i) n s d (omega arith) ∙ rw e refl

pub steps_named : (c : List ℕ) (k m : ℕ) → m ≡ kept_count c → any (step_names k) (each (kept_step c) (run 0 m)) ≡ kind_named (kept_pattern c) k
unfolding kept_pattern
steps_named c k m e = rw e refl

pub steps_six : (c : List ℕ) → kept_count c ≤ 6
steps_six c = grind (arith, nat_tests)

pub steps_long : (c : List ℕ) → length (kept_pattern c).steps ≡ kept_count c
unfolding kept_pattern
steps_long c = length_run (kept_step c) 0 (kept_count c)

pub steps_at : (c : List ℕ) (s : ℕ) (d : Step) → s < kept_count c → get_or (kept_pattern c).steps s d ≡ kept_step c s
unfolding kept_pattern
steps_at c s d l = let e : 0 + s ≡ s = omega arith in getD_run (kept_step c) 0 (kept_count c) s d l ∙ ap (kept_step c) e
