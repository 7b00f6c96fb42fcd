use Rattle.std.proofs.Common.{◌≡◌, ◌+◌, ◌<◌, true, false, leb, get_or, sym, ap, ◌∙◌, rules}
use Rattle.timeline.specs.Lists.{none_of}
use Rattle.timeline.specs.Order.{before, last_of, nothing}
use Rattle.timeline.proofs.Order.{nth_is}
use Rattle.rows.proofs.Passing.{none_of_is, window_end}
use Rattle.rows.proofs.extension.is_behind.Goals as goal

pub returns-then-is_empty : goal.returns-then-is_empty
returns-then-is_empty c =
    let e : none_of c.args.row.now ≡ true = none_of_is c.args.row.now ∙ sym c.if-is_empty.ensures in
    rw e

pub returns-then-before : goal.returns-then-before
returns-then-before c =
    let e : none_of c.args.row.now ≡ false = none_of_is c.args.row.now ∙ sym c.if-is_empty.ensures in
    let b : before (last_of c.args.row.now) c.args.e ≡ true = sym (c.if-before.ensures ∙ ap (λ l. before l c.args.e) c.last_of.ensures) in
    let t : c.args.e.time < 18446744073709551616 = search rules in
    rw (e, b) (window_end c.args.e.time (get_or c.args.row.now 0 nothing).time c.args.within c.saturating_add.result t c.saturating_add.ensures
    ∙ ap (λ f. leb c.args.e.time (f.time + c.args.within)) (sym (nth_is c.args.row.now 0)))

pub returns-else-before : goal.returns-else-before
returns-else-before c =
    let e : none_of c.args.row.now ≡ false = none_of_is c.args.row.now ∙ sym c.if-is_empty.ensures in
    let b : before (last_of c.args.row.now) c.args.e ≡ false = sym (c.if-before.ensures ∙ ap (λ l. before l c.args.e) c.last_of.ensures) in
    rw (e, b) c.if-before.false
