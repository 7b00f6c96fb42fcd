use Rattle.std.proofs.Common.{◌≡◌, true, false, not, sym, ap, ◌∙◌, rules, tests}
use Rattle.std.proofs.lemmas.Iterator.{YieldsList-from_slice}
use Rattle.std.proofs.lemmas.Iterator.Search.{any_from_yields_List}
use Rattle.timeline.specs.Lists.{none_of}
use Rattle.patterns.specs.Kept.{kept_step}
use Rattle.rows.specs.Finder.{disturbs}
use Rattle.rows.proofs.Passing.{none_of_is, any_is}
use Rattle.rows.proofs.extension.Extension.is_clear.Goals as goal

pub returns-then-is_empty : goal.returns-then-is_empty
returns-then-is_empty c =
    let e : none_of c.args.row.now ≡ true = none_of_is c.args.row.now ∙ sym c.if-is_empty.ensures in
    rw e c.if-is_empty.true

pub returns-else-is_empty : goal.returns-else-is_empty
returns-else-is_empty c =
    let e : none_of c.args.row.now ≡ false = none_of_is c.args.row.now ∙ sym c.if-is_empty.ensures in
    let test = disturbs c.args.row.now (kept_step c.args.self.pattern.words.now c.args.self.step) c.args.next in
    rw e (ap not (any_from_yields_List test _ _ c.any.result c.any.ensures.ran (YieldsList-from_slice c.args.self.all.now c.iter.ensures.rest) (λ x b q k. search (rules, tests)) ∙ any_is test c.args.self.all.now))
