use Rattle.std.proofs.Common.{◌≡◌, ℕ, Bool, List, Some, None, refl, ◌∙◌, sym, ap, rules}
use borrow.Author.Tests.{tests}
use Rattle.std.proofs.lemmas.Iterator.{YieldsList-from_slice}
use Rattle.std.proofs.lemmas.Iterator.Search.{find_from_yields_List}
use Rattle.std.specs.List.{find}
use Rattle.std.specs.Option.{option_map}
use Rattle.timeline.specs.Lists.{none_of}
use Rattle.patterns.specs.Patterns.{Never}
use Rattle.patterns.specs.Kept.{kept_never, kept_step}
use Rattle.patterns.specs.Asked.{first_of, of_some, free_kind}
use Rattle.patterns.proofs.Chains.{find_first}
use Rattle.patterns.proofs.Asking.{free_needed}
use Rattle.patterns.proofs.kept.Kept.free_never.Goals as goal

pub returns : goal.returns
returns c =
    let free : Never → Bool = λ n. none_of n.tests in
    let read : List ℕ → Never = λ ws. kept_never ws 0 in
    let test : List ℕ → Bool = λ ws. free (read ws) in
    let nevers = (kept_step c.args.self.words.now c.args.step).never in
    let found = find_from_yields_List test _ _ c.find.result c.find.ensures.ran (YieldsList-from_slice c.nevers.result.now cc) (λ x b q k. search (rules, tests)) in
    let first = find_first free read test (λ ws. refl) c.nevers.result.now ∙ ap (first_of free) (c.nevers.ensures ∙ ap (λ s. s.never) c.step.ensures) in
    let one : Some c.in_ok-free.free.now ≡ find test c.nevers.result.now = ap (option_map (λ r. r.now)) (sym c.in_ok-free.was) ∙ found in
    let value : Some c.kind.result ≡ free_kind nevers = ap Some c.kind.ensures ∙ ap (λ o. of_some (λ (n : Never). n.kind) (option_map read o)) one ∙ ap (of_some (λ (n : Never). n.kind)) first in
    record { value = value; needed = free_needed nevers c.kind.result (sym value) }

pub returns-in_err-free-clause-value : goal.returns-in_err-free-clause-value
returns-in_err-free-clause-value c =
    let free : Never → Bool = λ n. none_of n.tests in
    let read : List ℕ → Never = λ ws. kept_never ws 0 in
    let test : List ℕ → Bool = λ ws. free (read ws) in
    let found = find_from_yields_List test _ _ c.find.result c.find.ensures.ran (YieldsList-from_slice c.nevers.result.now cc) (λ x b q k. search (rules, tests)) in
    let first = find_first free read test (λ ws. refl) c.nevers.result.now ∙ ap (first_of free) (c.nevers.ensures ∙ ap (λ s. s.never) c.step.ensures) in
    let none : None ≡ find test c.nevers.result.now = ap (option_map (λ r. r.now)) (sym c.in_err-free.was) ∙ found in
    c.from_residual.ensures ∙ ap (λ o. of_some (λ (n : Never). n.kind) (option_map read o)) none ∙ ap (of_some (λ (n : Never). n.kind)) first
