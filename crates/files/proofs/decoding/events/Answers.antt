use Rattle.std.proofs.Common.{◌≡◌, ◌+◌, [], ◌++◌, length, vec_items, sym, refl, ap, ◌∙◌, subst, ap₂, arith}
use Rattle.files.specs.Events.{events_from, front_of, fault_from}
use Rattle.files.proofs.Chunks.{Read, read_next, read_stop, read_over}
use Rattle.files.proofs.decoding.events.Goals as goal

pub loop-i-init : goal.loop-i-init
loop-i-init c =
    record {
      front = ap (λ xs. xs ++ front_of (events_from 0 c.as_chunks.result.0.now)) c.new-events.ensures.items;
      fault = refl;
    }

pub returns-in-Err : goal.returns-in-Err
returns-in-Err c =
    let cs = c.as_chunks.result.0.now in
    let stop = read_stop cs c.loop-i.i (length c.as_chunks.result.1.now) (vec_items c.loop-i.events) c.loop-i.invariant
    c.loop-i-test.true c.in-Err.fault c.in-Err.ensures.value (sym c.in-Err.ensures.test) in (
      stop.0 ∙ ap (λ ds. front_of (events_from 0 ds)) c.as_chunks.ensures.front,
      stop.1 ∙ ap₂ (λ ds n. fault_from 0 (events_from 0 ds) n) c.as_chunks.ensures.front c.as_chunks.ensures.back_len,
    )

pub loop-i-preserved : goal.loop-i-preserved
loop-i-preserved c =
    let cs = c.as_chunks.result.0.now in
    let left = length c.as_chunks.result.1.now in
    subst (Read cs (c.loop-i.i + 1) left) (sym c.in_ok-push-in-Ok.ensures.items)
    (read_next cs c.loop-i.i left (vec_items c.loop-i.events) c.loop-i.invariant c.loop-i-test.true c.in-Ok.event c.in-Ok.ensures.value (sym c.in-Ok.ensures.test))

pub returns : goal.returns
returns c =
    let cs = c.as_chunks.result.0.now in
    let left = length c.as_chunks.result.1.now in
    let over = read_over cs c.loop-i.i left (vec_items c.loop-i.events) c.loop-i.invariant c.loop-i-test.false in
    let i : length cs ≡ c.loop-i.i = omega arith in (
      over.0 ∙ ap (λ ds. front_of (events_from 0 ds)) c.as_chunks.ensures.front,
      c.cut_off-fault.ensures ∙ ap (λ n. fault_from n [] left) i ∙ over.1
          ∙ ap₂ (λ ds n. fault_from 0 (events_from 0 ds) n) c.as_chunks.ensures.front c.as_chunks.ensures.back_len,
    )
