use Rattle.std.proofs.Common.{sym, ap, ◌∙◌}
use Rattle.patterns.specs.Kept.{kept_pattern}
use Rattle.rows.specs.Finding.{next_found}
use Rattle.rows.proofs.FirstRow.{placed_is, next_none, next_some}
use Rattle.rows.proofs.search.next_row.Goals as goal

pub returns-then-not-is_placed : goal.returns-then-not-is_placed
returns-then-not-is_placed c =
    next_none c.over.result (kept_pattern c.args.kept.words.now) c.args.upto c.args.cursor
    (sym (c.if-not-is_placed.ensures ∙ placed_is c.over.result _ _ _ c.count.result c.steps.result c.count.ensures c.steps.ensures))
    ∙ ap (λ h. next_found h (kept_pattern c.args.kept.words.now) c.args.upto c.args.cursor) c.over.ensures

pub first_row-requires : goal.first_row-requires
first_row-requires c = sym (c.if-not-is_placed.ensures ∙ placed_is c.over.result _ _ _ c.count.result c.steps.result c.count.ensures c.steps.ensures)

pub returns : goal.returns
returns c =
    c.first_row.ensures
    ∙ next_some c.over.result (kept_pattern c.args.kept.words.now) c.args.upto c.args.cursor
    (sym (c.if-not-is_placed.ensures ∙ placed_is c.over.result _ _ _ c.count.result c.steps.result c.count.ensures c.steps.ensures))
    ∙ ap (λ h. next_found h (kept_pattern c.args.kept.words.now) c.args.upto c.args.cursor) c.over.ensures
