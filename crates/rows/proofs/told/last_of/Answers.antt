use Rattle.std.proofs.Common.{◌-◌, length, sym, ap, ◌∙◌}
use Rattle.std.specs.Option.{unwrap_or}
use Rattle.std.proofs.lemmas.Option.{unwrap_or-slice_get}
use Rattle.timeline.specs.Order.{nothing}
use Rattle.timeline.proofs.Order.{nth_is}
use Rattle.rows.proofs.told.last_of.Goals as goal

pub returns : goal.returns
returns c =
    c.unwrap_or.ensures
    ∙ ap (λ o. unwrap_or o nothing) (c.copied.ensures ∙ c.last.ensures.value)
    ∙ unwrap_or-slice_get c.args.row.now (length c.args.row.now - 1) nothing
    ∙ sym (nth_is c.args.row.now (length c.args.row.now - 1))
