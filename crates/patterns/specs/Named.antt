-- Which kinds a pattern names.
-- Assumes nothing: these are definitions.
use Rattle.std.specs.Prelude.{ℕ, Bool, ◌==◌, nat_eq}
use Rattle.timeline.specs.Lists.{or, any}
use Rattle.patterns.specs.Patterns.{Step, Pattern}

-- a step, or a never of it, is of a kind
abbrev pub step_names : ℕ → Step → Bool
step_names k s = or (s.kind == k) (any (λ n. nat_eq n.kind k) s.never)

-- some step or never is of a kind; `named p e` is, by computation, `kind_named p e.kind`
abbrev pub kind_named : Pattern → ℕ → Bool
kind_named p k = any (step_names k) p.steps
