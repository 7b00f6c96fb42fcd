use Rattle.std.proofs.Common.{◌∷◌, sym, ap₂, ◌∙◌, rules}
use Rattle.patterns.specs.Numbers.{nevers_in}
use Rattle.patterns.specs.Kept.{never_cells, nevers_cells}
use Rattle.patterns.specs.Reading.{a_never, all_parts}
use Rattle.patterns.proofs.Laying.{slots, padded_by}
use Rattle.patterns.proofs.Parts.{never_part, nevers_may, nevers_words, nevers_behind, length_nevers}
use Rattle.patterns.proofs.May.{too_many, not_every, few_enough}
use Rattle.patterns.proofs.reading.nevers.Goals as goal

pub returns-then-count : goal.returns-then-count
returns-then-count c =
    let k = c.first-count.result.0 in
    let left = c.first-count.result.1.now in
    rw (← c.first-count.ensures.0, ← c.first-count.ensures.1) (too_many (a_never c.args.before) 2 k (nevers_in k left) (length_nevers k left) c.if-count.true)

pub returns-in_err-left : goal.returns-in_err-left
returns-in_err-left c =
    let k = c.first-count.result.0 in
    let left = c.first-count.result.1.now in
    let n = c.args.before in
    let read = rw (c.in_err-left.was, slots 22 2 k c.if-count.false) at (c.several.ensures (never_part n) (λ row i r post. search rules)) in
    rw (c.from_residual.ensures, ← c.first-count.ensures.0, ← c.first-count.ensures.1) (not_every (a_never n) 2 k (nevers_in k left) (length_nevers k left) (sym (nevers_may n 0 k left) ∙ read))

pub returns : goal.returns
unfolding nevers_cells
returns c =
    let k = c.first-count.result.0 in
    let left = c.first-count.result.1.now in
    let n = c.args.before in
    let xs = nevers_in k left in
    let read = rw (c.in_ok-left.was, slots 22 2 k c.if-count.false) at (c.several.ensures (never_part n) (λ row i r post. search rules)) in
    let count = length_nevers k left in
    rw (← c.first-count.ensures.0, ← c.first-count.ensures.1) (
      few_enough (a_never n) 2 k xs count c.if-count.false (sym (nevers_may n 0 k left) ∙ read.0),
      c.laid.ensures ∙ ap₂ (λ n ws. n ∷ ws) (sym count) (c.as_flattened.ensures.value ∙ rw read.1 (padded_by 22 never_cells 2 k (all_parts (never_part n) k left) xs count c.if-count.false (nevers_words n k left))),
      read.2 ∙ nevers_behind n k left,
    )
