use Rattle.std.proofs.Common.{◌≡◌, Bool, ℕ, false, Option, Some, None, ◌∙◌, sym, rules}
use borrow.Author.Tests.{tests}
use Rattle.std.specs.Option.{MatchOption}
use Rattle.patterns.specs.declared.comparing.Comparison.{Comparison}
use Rattle.patterns.specs.Patterns.{Test}
use Rattle.patterns.specs.Codes.{test_of, comparison}
use Rattle.patterns.specs.Kept.{kept_step}
use Rattle.patterns.specs.Asked.{first_of, of_who, of_some, with_who_of}
use Rattle.patterns.proofs.Asking.{with_some, with_none, same_needed}
use Rattle.patterns.proofs.kept.Kept.asks_same_who.Goals as goal

-- what the test that there is compares with
of_test :
    (k : ℕ) (t : Option Test) (o : Option Comparison) (r : Bool) (What : Comparison → Type 0) → o ≡ of_some comparison t → MatchOption o (r ≡ false) What
    → ((x : Comparison) → What x → r ≡ with_who_of k (Some (test_of x))) → r ≡ with_who_of k t
of_test k t None r What is what tells = what ∙ with_none k t is
of_test k t (Some x) r What is what tells = tells x what ∙ with_some k t x is

pub returns : goal.returns
returns c =
    let step = kept_step c.args.self.words.now c.args.step in
    let value =
    of_test c.args.earlier (first_of of_who step.tests) c.who_test.result c.is_some_and.result _ c.who_test.ensures c.is_some_and.ensures
    (λ x k. search (rules, tests)) in
    record { value = value; needed = λ t. same_needed c.args.earlier step.kind step.tests (sym value ∙ t) }
