-- Which step a list of steps has at a place, and the steps of a kept pattern.
use Rattle.std.proofs.Common.{◌≡◌, ℕ, zero, suc, ◌-◌, ◌<◌, List, [], ◌∷◌, ◌++◌, length, get_or, refl, ◌∙◌, append_assoc, arith, length-append}
use Rattle.std.proofs.lemmas.List.{get_or_at}
use Rattle.patterns.specs.Patterns.{Step}
use Rattle.patterns.specs.Kept.{kept_step, kept_count, kept_pattern}
use Rattle.patterns.proofs.Steps.{steps_at}
use Rattle.rows.specs.Finding.{no_step, step_of}

step_get : (ss : List Step) (i : ℕ) → step_of ss i ≡ get_or ss i no_step
unfolding step_of
step_get [] i = refl
step_get (s ∷ ss) zero = refl
step_get (s ∷ ss) (suc i) = step_get ss i

pub step_mid : (ss : List Step) (s : Step) (ts : List Step) → step_of (ss ++ s ∷ ts) (length ss) ≡ s
step_mid ss s ts = step_get (ss ++ s ∷ ts) (length ss) ∙ get_or_at ss s ts no_step (length ss) refl

pub step_last : (ss : List Step) (s t : Step) → step_of (ss ++ s ∷ t ∷ []) (length (ss ++ s ∷ t ∷ []) - 1) ≡ t
step_last ss s t =
    let y : length (ss ++ s ∷ t ∷ []) - 1 ≡ length (ss ++ s ∷ []) = omega (arith, length-append ss (s ∷ t ∷ []), length-append ss (s ∷ [])) in
    rw (y, ← append_assoc ss (s ∷ []) (t ∷ [])) (step_mid (ss ++ s ∷ []) t [])

pub kept_at : (c : List ℕ) (i : ℕ) → i < kept_count c → step_of (kept_pattern c).steps i ≡ kept_step c i
kept_at c i l = step_get (kept_pattern c).steps i ∙ steps_at c i no_step l
