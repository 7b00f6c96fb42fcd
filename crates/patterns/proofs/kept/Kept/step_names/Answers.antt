use Rattle.std.proofs.Common.{◌≡◌, Bool, ℕ, List, eqb, refl, ◌∙◌, ap, rules}
use borrow.Author.Tests.{tests}
use Rattle.std.proofs.lemmas.Iterator.{YieldsList-from_slice}
use Rattle.std.proofs.lemmas.Iterator.Search.{any_from_yields_List}
use Rattle.timeline.specs.Lists.{any}
use Rattle.patterns.specs.Patterns.{Never}
use Rattle.patterns.specs.Kept.{kept_never, kept_step}
use Rattle.patterns.proofs.Chains.{any_some, or_other}
use Rattle.patterns.proofs.kept.Kept.step_names.Goals as goal

pub returns-else-kind : goal.returns-else-kind
returns-else-kind c =
    let is_of_kind : Never → Bool = λ n. eqb n.kind c.args.kind in
    let test : List ℕ → Bool = λ ws. is_of_kind (kept_never ws 0) in
    let own : c.kind.result ≡ (kept_step c.args.self.words.now c.args.step).kind = c.kind.ensures ∙ ap (λ n. n.kind) c.item.ensures ∙ ap (λ s. s.kind) c.step-step.ensures in
    any_from_yields_List test _ _ _ c.any.ensures.ran (YieldsList-from_slice c.nevers.result.now cc) (λ x b q k. search (rules, tests))
    ∙ any_some is_of_kind (λ n. kept_never n 0) test (λ ws. refl) c.nevers.result.now
    ∙ ap (any is_of_kind) (c.nevers.ensures ∙ ap (λ s. s.never) c.step-step.ensures)
    ∙ or_other _ c.args.kind _ (λ e. c.if-kind.false (own ∙ e))
