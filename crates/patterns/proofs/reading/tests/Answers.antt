use Rattle.std.proofs.Common.{◌∷◌, sym, ap₂, ◌∙◌, rules}
use Rattle.patterns.specs.Limits.{a_test}
use Rattle.patterns.specs.Numbers.{tests_in}
use Rattle.patterns.specs.Kept.{test_cells, tests_cells}
use Rattle.patterns.specs.Reading.{all_parts}
use Rattle.patterns.proofs.Laying.{slots, padded_by}
use Rattle.patterns.proofs.Parts.{test_part, tests_may, tests_words, tests_behind, length_tests}
use Rattle.patterns.proofs.May.{too_many, not_every, few_enough}
use Rattle.patterns.proofs.reading.tests.Goals as goal

pub returns-then-count : goal.returns-then-count
returns-then-count c =
    let k = c.first-count.result.0 in
    let left = c.first-count.result.1.now in
    rw (← c.first-count.ensures.0, ← c.first-count.ensures.1) (too_many (a_test c.args.before) 4 k (tests_in k left) (length_tests k left) c.if-count.true)

pub returns-in_err-left : goal.returns-in_err-left
returns-in_err-left c =
    let k = c.first-count.result.0 in
    let left = c.first-count.result.1.now in
    let n = c.args.before in
    let read = rw (c.in_err-left.was, slots 5 4 k c.if-count.false) at (c.several.ensures (test_part n) (λ row i r post. search rules)) in
    rw (c.from_residual.ensures, ← c.first-count.ensures.0, ← c.first-count.ensures.1) (not_every (a_test n) 4 k (tests_in k left) (length_tests k left) (sym (tests_may n 0 k left) ∙ read))

pub returns : goal.returns
unfolding tests_cells
returns c =
    let k = c.first-count.result.0 in
    let left = c.first-count.result.1.now in
    let n = c.args.before in
    let xs = tests_in k left in
    let read = rw (c.in_ok-left.was, slots 5 4 k c.if-count.false) at (c.several.ensures (test_part n) (λ row i r post. search rules)) in
    let count = length_tests k left in
    rw (← c.first-count.ensures.0, ← c.first-count.ensures.1) (
      few_enough (a_test n) 4 k xs count c.if-count.false (sym (tests_may n 0 k left) ∙ read.0),
      c.laid.ensures ∙ ap₂ (λ n ws. n ∷ ws) (sym count) (c.as_flattened.ensures.value ∙ rw read.1 (padded_by 5 test_cells 4 k (all_parts (test_part n) k left) xs count c.if-count.false (tests_words n k left))),
      read.2 ∙ tests_behind n k left,
    )
