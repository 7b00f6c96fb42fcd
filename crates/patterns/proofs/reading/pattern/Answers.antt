use Rattle.std.proofs.Common.{◌∷◌, sym, ap, ◌∙◌, rules}
use Rattle.std.proofs.lemmas.Bool.{and_left, and_right, and_from}
use Rattle.patterns.specs.Kept.{step_cells}
use Rattle.patterns.specs.Numbers.{steps_in}
use Rattle.patterns.specs.Reading.{all_parts}
use Rattle.patterns.proofs.Laying.{slots, padded_by}
use Rattle.patterns.proofs.Parts.{step_part, steps_may, steps_words, length_steps}
use Rattle.patterns.proofs.May.{head_few, pattern_may, pattern_whole}
use Rattle.patterns.proofs.reading.pattern.Goals as goal

pub returns-then-not-head_may_be : goal.returns-then-not-head_may_be
returns-then-not-head_may_be c =
    sym (pattern_may c.args.row.now c.first-within.result c.first-late.result c.first-count.result c.first-within.ensures c.first-late.ensures c.first-count.ensures)
    ∙ and_left _ _ (sym c.if-not-head_may_be.ensures)

pub returns-in_err-several : goal.returns-in_err-several
returns-in_err-several c =
    let k = c.first-count.result.0 in
    let left = c.first-count.result.1.now in
    let few = head_few c.first-within.result.0 c.first-late.result.0 k c.if-not-head_may_be.ensures in
    let read = rw (c.in_err-several.was, slots 67 6 k few) at (c.several.ensures step_part (λ row i r post. search rules)) in
    rw c.from_residual.ensures
    (sym (pattern_may c.args.row.now c.first-within.result c.first-late.result c.first-count.result c.first-within.ensures c.first-late.ensures c.first-count.ensures)
    ∙ and_right _ _ (sym (steps_may 0 k left) ∙ read))

pub returns : goal.returns
returns c =
    let k = c.first-count.result.0 in
    let left = c.first-count.result.1.now in
    let few = head_few c.first-within.result.0 c.first-late.result.0 k c.if-not-head_may_be.ensures in
    let read = rw (c.in_ok-several.was, slots 67 6 k few) at (c.several.ensures step_part (λ row i r post. search rules)) in (
      sym (pattern_may c.args.row.now c.first-within.result c.first-late.result c.first-count.result c.first-within.ensures c.first-late.ensures c.first-count.ensures)
          ∙ and_from _ _ (sym c.if-not-head_may_be.ensures) (sym (steps_may 0 k left) ∙ read.0),
      c.laid.ensures
          ∙ ap (λ ws. c.first-within.result.0 ∷ c.first-late.result.0 ∷ k ∷ ws) (c.as_flattened.ensures.value ∙ rw read.1 (padded_by 67 step_cells 6 k (all_parts step_part k left) (steps_in k left) (length_steps k left) few (steps_words k left)))
          ∙ pattern_whole c.args.row.now c.first-within.result c.first-late.result c.first-count.result c.first-within.ensures c.first-late.ensures c.first-count.ensures,
    )
