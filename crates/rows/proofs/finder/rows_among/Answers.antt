use Rattle.std.proofs.Common.{◌+◌, ◌<◌, ◌≤◌, [], ◌∷◌, ◌++◌, length, drop, vec_items, sym, ap, ◌∙◌, arith}
use Rattle.timeline.specs.Lists.{each, flat}
use Rattle.patterns.specs.Kept.{kept_step, kept_count, kept_pattern}
use Rattle.patterns.proofs.Steps.{steps_long, steps_at}
use Rattle.rows.specs.Rows.{rows}
use Rattle.rows.specs.Finder.{lists, longer}
use Rattle.rows.proofs.Flats.{level_first, level_more, level_last}
use Rattle.rows.proofs.finder.rows_among.Goals as goal

pub loop-step-init : goal.loop-step-init
unfolding each
loop-step-init c =
    let p = kept_pattern c.args.pattern.words.now in
    ap (λ vs. flat (rows c.args.all.now p.within p.steps) (lists vs)) (c.in_ok-push.ensures.items ∙ ap (λ vs. vs ++ c.new.result ∷ []) c.new-rows.ensures.items)
    ∙ ap (λ r. flat (rows c.args.all.now p.within p.steps) (r ∷ [])) c.new.ensures.items
    ∙ level_first c.args.all.now p.within p.steps

pub loop-step-preserved : goal.loop-step-preserved
loop-step-preserved c =
    let words = c.args.pattern.words.now in
    let p = kept_pattern words in
    let all = c.args.all.now in
    let i = c.loop-step.step in
    let l : i < kept_count words = omega (arith, c.steps-step-end.ensures, c.loop-step-test.true) in
    let l₂ : i < length p.steps = omega (arith, l, steps_long words) in
    ap (flat (rows all p.within (drop (i + 1) p.steps)))
    (c.in_ok-rows.ensures ∙ ap (λ vs. flat (longer all p.within (kept_step words i)) (lists vs)) c.deref.ensures.value)
    ∙ level_more all p.within p.steps i (kept_step words i) (lists (vec_items c.loop-step.rows)) l₂ (steps_at words i (kept_step words i) l)
    ∙ c.loop-step.invariant

pub returns : goal.returns
returns c =
    let words = c.args.pattern.words.now in
    let p = kept_pattern words in
    let l : length p.steps ≤ c.loop-step.step = omega (arith, steps_long words, c.steps-step-end.ensures, c.loop-step-test.false) in
    sym (level_last c.args.all.now p.within p.steps c.loop-step.step (lists (vec_items c.loop-step.rows)) l) ∙ c.loop-step.invariant
