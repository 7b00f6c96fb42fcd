use Rattle.std.proofs.Common.{rules, None, Some, ◌≡◌, [], sym, inr}
use Rattle.std.specs.Vec.Iter.{into_iter_items}
use Rattle.files.specs.Asking.{SaysSource}
use Rattle.files.proofs.asking.PatternAndEventsWords.next_of.Goals as goal

pub returns-in_err-next_word : goal.returns-in_err-next_word
returns-in_err-next_word c =
    let left : into_iter_items c.next.new.args ≡ [] = search rules in
    let said : SaysSource (into_iter_items c.args.args.now) (Some c.in_ok-next.field-0) (into_iter_items c.next.new.args) = c.in_ok-next.ensures in
    let answer : c.from_residual-in_err-next_word.result ≡ None = search rules in
    rw answer (inr (c.in_ok-next.field-0, rw (sym left) said))
