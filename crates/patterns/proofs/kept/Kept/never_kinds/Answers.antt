use Rattle.std.proofs.Common.{◌∙◌, ap}
use Rattle.patterns.specs.Kept.{kept_step}
use Rattle.patterns.proofs.Asking.{no_kinds, one_kind, two_kinds, kinds_needed}
use Rattle.patterns.proofs.kept.Kept.never_kinds.Goals as goal

pub returns-in-empty : goal.returns-in-empty
returns-in-empty c =
    let words = c.args.self.words.now in
    let kinds = no_kinds c.nevers.result.now (kept_step words c.args.step).never (c.nevers.ensures ∙ ap (λ s. s.never) c.step.ensures) c.in-empty.len_below in
    record { value = kinds; needed = kinds_needed words c.args.step _ _ kinds }

pub returns-in-len1 : goal.returns-in-len1
returns-in-len1 c =
    let words = c.args.self.words.now in
    let kinds = one_kind c.nevers.result.now (kept_step words c.args.step).never (c.nevers.ensures ∙ ap (λ s. s.never) c.step.ensures) c.in-len1.len_at_least c.in-len1.len_below in
    record {
      value = (c.kind-kind.ensures ∙ kinds.0, c.kind-kind.ensures ∙ kinds.1);
      needed = kinds_needed words c.args.step _ _ (c.kind-kind.ensures ∙ kinds.0, c.kind-kind.ensures ∙ kinds.1);
    }

pub returns-in-len2-up : goal.returns-in-len2-up
returns-in-len2-up c =
    let words = c.args.self.words.now in
    let kinds = two_kinds c.nevers.result.now (kept_step words c.args.step).never (c.nevers.ensures ∙ ap (λ s. s.never) c.step.ensures) c.in-len2-up.len_at_least in
    record {
      value = (c.kind.ensures ∙ kinds.0, c.kind-in-len2-up.ensures ∙ kinds.1);
      needed = kinds_needed words c.args.step _ _ (c.kind.ensures ∙ kinds.0, c.kind-in-len2-up.ensures ∙ kinds.1);
    }
