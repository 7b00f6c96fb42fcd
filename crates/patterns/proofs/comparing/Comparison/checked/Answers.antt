use Rattle.std.proofs.Common.{get_or, sym, ◌∙◌, ap}
use Rattle.patterns.specs.Codes.{test_of}
use Rattle.patterns.specs.Reading.{other_may}
use Rattle.patterns.proofs.Numbered.{test_back, no_field, no_sign, no_other, all_may}
use Rattle.patterns.proofs.comparing.Comparison.checked.Goals as goal
use Rattle.patterns.proofs.comparing.Comparison.checked.Goals.{then-what-ge-FIELDS-via-then-what-ge-FIELDS, then-what-ge-FIELDS-via-else-what-ge-FIELDS+then-sign-ge-SIGNS, then-what-ge-FIELDS-via-else-what-ge-FIELDS+else-sign-ge-SIGNS+then-not-other_may_be}

pub returns-then-what-ge-FIELDS : goal.returns-then-what-ge-FIELDS
returns-then-what-ge-FIELDS c =
    let xs = c.args.words in
    elim c.then-what-ge-FIELDS.branch [
      | then-what-ge-FIELDS-via-then-what-ge-FIELDS w ↦ no_field _ _ _ _ _ _ w.if-what-ge-FIELDS.true
      | then-what-ge-FIELDS-via-else-what-ge-FIELDS+then-sign-ge-SIGNS w ↦ no_sign _ _ _ _ _ _ w.if-sign-ge-SIGNS.true
      | then-what-ge-FIELDS-via-else-what-ge-FIELDS+else-sign-ge-SIGNS+then-not-other_may_be w ↦
          no_other c.args.before (get_or xs 0 0) (get_or xs 1 0) (get_or xs 2 0) (get_or xs 3 0) (get_or xs 4 0)
          (ap (λ t. other_may c.args.before t.step t.other) (sym c.from-test.ensures) ∙ sym w.other_may_be.ensures ∙ w.if-not-other_may_be.true)
    ]

pub returns : goal.returns
returns c =
    let xs = c.args.words in
    let l = c.if-what-ge-FIELDS.false in
    let m = c.if-sign-ge-SIGNS.false in
    let o = ap (λ t. other_may c.args.before t.step t.other) (sym c.from-test.ensures) ∙ sym c.other_may_be.ensures ∙ c.if-not-other_may_be.false in (
      all_may c.args.before (get_or xs 0 0) (get_or xs 1 0) (get_or xs 2 0) (get_or xs 3 0) (get_or xs 4 0) l m o,
      ap test_of c.from-test.ensures ∙ test_back (get_or xs 0 0) (get_or xs 1 0) (get_or xs 2 0) (get_or xs 3 0) (get_or xs 4 0) l m,
    )
