use Rattle.std.proofs.Common.{◌+◌, ◌++◌, drop, vec_items, sym, refl, ap, ◌∙◌}
use Rattle.timeline.specs.Lists.{each, flat}
use Rattle.patterns.specs.Kept.{kept_step, kept_pattern}
use Rattle.rows.specs.Finder.{lists, longer}
use Rattle.rows.proofs.Flats.{flat_more, flat_over}
use Rattle.rows.proofs.extension.Extension.all_go_on.Goals as goal

pub loop-row-init : goal.loop-row-init
unfolding each
loop-row-init c =
    let next = longer c.args.self.all.now (kept_pattern c.args.self.pattern.words.now).within (kept_step c.args.self.pattern.words.now c.args.self.step) in
    ap (λ vs. lists vs ++ flat next (lists c.args.rows.now)) c.new-long.ensures.items

pub loop-row-preserved : goal.loop-row-preserved
loop-row-preserved c =
    let next = longer c.args.self.all.now (kept_pattern c.args.self.pattern.words.now).within (kept_step c.args.self.pattern.words.now c.args.self.step) in
    let rows = c.args.rows.now in
    let i = c.loop-row.row-index in
    let done = lists (vec_items c.loop-row.long) in
    ap (λ rs. rs ++ flat next (lists (drop (i + 1) rows))) (c.in_ok-go_on.ensures refl ∙ ap (λ r. done ++ next r) c.deref.ensures.value)
    ∙ flat_more next vec_items rows i done c.row-item.result c.loop-row-test.true c.row-item.is ∙ c.loop-row.invariant

pub returns : goal.returns
returns c =
    let next = longer c.args.self.all.now (kept_pattern c.args.self.pattern.words.now).within (kept_step c.args.self.pattern.words.now c.args.self.step) in
    sym (flat_over next vec_items c.args.rows.now c.loop-row.row-index (lists (vec_items c.loop-row.long)) c.loop-row-test.false) ∙ c.loop-row.invariant
