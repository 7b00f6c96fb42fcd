use Rattle.std.proofs.Common.{◌+◌, ◌-◌, ◌<◌, ◌≤◌, max, get_or, drop, vec_items, sym, ap, ◌∙◌, arith}
use Rattle.timeline.specs.Order.{latest, nothing}
use Rattle.rows.specs.Known.{with_number, counted_after}
use Rattle.rows.proofs.Counting.{latest_push, count_taken, count_late, count_over}
use Rattle.rows.proofs.lateness.counted.Goals as goal
use Rattle.rows.proofs.lateness.counted.Goals.{then-e-saturating_sub+in_ok-push, else-e-saturating_sub}

pub loop-i-init : goal.loop-i-init
unfolding latest
loop-i-init c =
    (sym (ap latest c.new-counted.ensures.items), λ p h. ap (λ es. counted_after p 0 es c.args.events.now) c.new-counted.ensures.items)

pub loop-i-preserved : goal.loop-i-preserved
loop-i-preserved c =
    let es = vec_items c.loop-i.counted in
    let fs = c.args.events.now in
    let i = c.loop-i.i in
    let e = get_or fs i nothing in
    elim c.if-e-saturating_sub.branch [
      | then-e-saturating_sub+in_ok-push w ↦
          let new = ap vec_items w.counted-is ∙ w.in_ok-push.ensures.items in (
            w.latest-is ∙ w.max-latest.ensures ∙ ap (λ t. max t e.time) c.loop-i.invariant.0 ∙ sym (ap latest new ∙ latest_push es (with_number i e)),
            λ p h.
                let m : latest es - p.late ≤ e.time = omega (arith, w.if-e-saturating_sub.true, c.saturating_sub.ensures, c.loop-i.invariant.0, h) in
                ap (λ xs. counted_after p (i + 1) xs (drop (i + 1) fs)) new ∙ count_taken fs i es p nothing c.loop-i-test.true (c.loop-i.invariant.1 p h) m,
          )
      | else-e-saturating_sub w ↦ (
        w.latest-is ∙ c.loop-i.invariant.0 ∙ ap (λ v. latest (vec_items v)) (sym w.counted-is),
        λ p h.
            let m : e.time < latest es - p.late = omega (arith, w.if-e-saturating_sub.false, c.saturating_sub.ensures, c.loop-i.invariant.0, h) in
            ap (λ v. counted_after p (i + 1) (vec_items v) (drop (i + 1) fs)) w.counted-is ∙ count_late fs i es p nothing c.loop-i-test.true (c.loop-i.invariant.1 p h) m,
      )
    ]

pub returns : goal.returns
returns c p h = count_over c.args.events.now c.loop-i.i (vec_items c.loop-i.counted) p c.loop-i-test.false (c.loop-i.invariant.1 p h)
