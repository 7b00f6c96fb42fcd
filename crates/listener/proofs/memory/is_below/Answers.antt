use Rattle.std.proofs.Common.{◌≡◌, ◌&&◌, true, eqb, ltb, lt-ltb, List, length, take, drop, ap, ◌∙◌, rules}
use borrow.Author.Tests.{tests}
use Rattle.std.proofs.lemmas.Bool.{eq-eqb}
use Rattle.timeline.specs.Order.{nth}
use Rattle.timeline.specs.Ring.{ring_long}
use Rattle.timeline.specs.Held.{held_in}
use Rattle.listener.proofs.Words.{ring_lent, lent_length}
use Rattle.listener.proofs.Fronts.{below_held}
use Rattle.listener.proofs.memory.is_below.Goals as goal

pub returns : goal.returns
returns c held =
    let m = c.args.memory.now in
    let there : (eqb (length (take ring_long (drop 419 m))) ring_long && ltb c.args.i c.args.span.len) ≡ true =
    rw (eq-eqb _ _ (lent_length m c.told-memory), lt-ltb _ _ held) in
    below_held c.args.bound _ c.at.result c.is_some_and.result _ (c.at.ensures.test ∙ there) c.at.ensures.cases c.is_some_and.ensures (λ x k. search (rules, tests))
    ∙ ap (λ (ring : List _). ltb (nth (held_in ring c.args.span) c.args.i).time c.args.bound) (ring_lent m c.told-memory)
