use Rattle.std.proofs.Common.{◌+◌, List, [], ◌∷◌, ◌++◌, vec_items, sym, ap, ◌∙◌}
use Rattle.timeline.specs.declared.events.Event.{Event}
use Rattle.timeline.specs.Lists.{each}
use Rattle.timeline.specs.Order.{nothing}
use Rattle.timeline.proofs.Each.{each_append}
use Rattle.patterns.specs.Kept.{kept_step, kept_pattern}
use Rattle.rows.specs.Rows.{goes_on}
use Rattle.rows.specs.Finder.{lists}
use Rattle.rows.proofs.Passing.{rest_put, put_taken, put_passed, put_over}
use Rattle.rows.proofs.extension.Extension.go_on.Goals as goal
use Rattle.rows.proofs.extension.Extension.go_on.Goals.{then-may_go_on+in_ok-with_next+in_ok-push, else-may_go_on}

pub loop-e-preserved : goal.loop-e-preserved
unfolding each
loop-e-preserved c =
    let all = c.args.self.all.now in
    let row = c.args.row.now in
    let test = goes_on all (kept_pattern c.args.self.pattern.words.now).within row (kept_step c.args.self.pattern.words.now c.args.self.step) in
    let next : Event → List Event = λ e. row ++ e ∷ [] in
    let done = lists (vec_items c.loop-e.rows) in
    let i = c.loop-e.e-index in
    elim c.if-may_go_on.branch [
      | then-may_go_on+in_ok-with_next+in_ok-push w ↦
          ap (rest_put test next all (i + 1))
          (ap (λ v. lists (vec_items v)) w.rows-is ∙ ap lists w.in_ok-push.ensures.items
          ∙ each_append vec_items (vec_items c.loop-e.rows) (w.in_ok-with_next.field-0 ∷ []) ∙ ap (λ r. done ++ r ∷ []) w.in_ok-with_next.ensures)
          ∙ put_taken test next all i done nothing c.loop-e-test.true (sym w.if-may_go_on.ensures) ∙ c.loop-e.invariant
      | else-may_go_on w ↦
          ap (λ v. rest_put test next all (i + 1) (lists (vec_items v))) w.rows-is
          ∙ put_passed test next all i done nothing c.loop-e-test.true (sym w.if-may_go_on.ensures) ∙ c.loop-e.invariant
    ]

pub returns : goal.returns
returns c _ =
    put_over (goes_on c.args.self.all.now (kept_pattern c.args.self.pattern.words.now).within c.args.row.now (kept_step c.args.self.pattern.words.now c.args.self.step))
    (λ e. c.args.row.now ++ e ∷ []) c.args.self.all.now c.loop-e.e-index (lists (vec_items c.loop-e.rows)) c.loop-e-test.false
    ∙ c.loop-e.invariant
