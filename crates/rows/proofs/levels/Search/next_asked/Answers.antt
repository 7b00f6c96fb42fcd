use Rattle.std.proofs.Common.{eqb, ap, ◌∙◌, inl, inr, arith}
use Rattle.std.proofs.lemmas.Bool.{cases_Bool}
use Rattle.timeline.specs.Order.{nth}
use Rattle.patterns.specs.Kept.{kept_step}
use Rattle.rows.specs.Held.{level_step}
use Rattle.rows.proofs.Pruning.{kept_kind_not}
use Rattle.rows.proofs.levels.Search.next_asked.Goals as goal

pub returns-clause-passed : goal.returns-clause-passed
returns-clause-passed c =
    let words = c.args.self.now.kept.words.now in
    let h = c.args.self.now.held in
    λ i l k.
    elim (cases_Bool (eqb (nth h i).who c.in-Some.who)) [
      | inl t ↦
          kept_kind_not h words c.args.choice.now.at c.args.choice.now.depth i c.kind_of-kind.result c.requires.few
          (c.kind_of-kind.ensures ∙ ap (λ s. (kept_step words s).kind) (c.level_step.ensures ∙ ap (λ n. level_step n c.args.choice.now.depth) c.steps.ensures))
          (c.next_of_who.ensures.passed i l k t)
      | inr t ↦ c.in-Some.ensures i t (omega (arith, c.next_of_who.ensures.bounds, c.requires.inside))
    ]
