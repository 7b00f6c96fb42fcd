use Rattle.std.proofs.Common.{◌<◌, ◌≤◌, refl, ◌∙◌, rules}
use borrow.Author.Tests.{tests}
use Rattle.std.proofs.lemmas.Iterator.{first_from_Range}
use Rattle.std.proofs.lemmas.List.FromFn.{length-map-range_with_len}
use Rattle.timeline.specs.Order.{nth}
use Rattle.timeline.specs.Ring.{slot}
use Rattle.timeline.specs.Held.{held_in}
use Rattle.listener.specs.Machine.{ring_of}
use Rattle.listener.proofs.Fronts.{run_found}
use Rattle.listener.proofs.memory.run_below.Goals as goal

pub returns-clause-value : goal.returns-clause-value
returns-clause-value c =
    let m = c.args.memory.now in
    let s = c.span_of-span.result in
    let b = c.args.bound in
    let found = first_from_Range _ _ _ c.find.result (λ i. i < s.len → b ≤ (nth (held_in (ring_of m) s) i).time) (λ i. i < s.len → (nth (held_in (ring_of m) s) i).time < b) c.find.ensures.ran
    (λ i q k. search (rules, tests)) (λ i q k. search (rules, tests)) in
    c.unwrap_or.ensures
    ∙ run_found b c.args.from s.len c.args.head.len (held_in (ring_of m) s) c.find.result (length-map-range_with_len (slot (ring_of m)) s.start s.len)
    c.span_of-span.ensures.len c.requires.from found
    ∙ rw (c.span_of-span.ensures.start, c.span_of-span.ensures.len) refl
