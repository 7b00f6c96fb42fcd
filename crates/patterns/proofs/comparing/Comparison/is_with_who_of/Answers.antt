use Rattle.std.proofs.Common.{◌≡◌, ℕ, Bool, false, eqb, ◌&&◌, Option, Some, None, rules}
use borrow.Author.Tests.{tests}
use Rattle.std.specs.Option.{MatchOption, option_to_list}
use Rattle.patterns.specs.Asked.{is_step}
use Rattle.patterns.proofs.comparing.Comparison.is_with_who_of.Goals as goal

-- a test of the step that there is
of_step : (k : ℕ) (step : Option ℕ) (other : ℕ) (r : Bool) (What : ℕ → Type 0) → MatchOption step (r ≡ false) What → ((i : ℕ) → What i → r ≡ (eqb i k && eqb other 0)) → r ≡ (is_step k (option_to_list step) && eqb other 0)
unfolding is_step
of_step k None other r What what tells = what
of_step k (Some i) other r What what tells = tells i what

pub returns : goal.returns
returns c = of_step c.args.earlier c.args.self.step c.args.self.other c.is_some_and.result _ c.is_some_and.ensures (λ i k. search (rules, tests))
