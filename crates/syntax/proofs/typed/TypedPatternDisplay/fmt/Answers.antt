use Rattle.std.proofs.Common.{◌≡◌, [], ◌++◌, length, get_or, take, codes, decimal, sym, ap, ◌∙◌, rules, arith, lit<}
use Rattle.std.proofs.Output.{has_written_append, has_written_of_eq}
use Rattle.patterns.specs.Kept.{step_in, kept_count, kept_step, kept_pattern}
use Rattle.syntax.specs.Typed.{step_letter, typed_step_as, typed_step, typed_steps}
use Rattle.syntax.proofs.Parts.{chunk_part, turns, at_most_few, step_part}
use Rattle.syntax.proofs.Texts.{so_far, so_far_none, so_far_more, all_steps}
use Rattle.syntax.proofs.typed.TypedPatternDisplay.fmt.Goals as goal

pub loop-i-init : goal.loop-i-init
loop-i-init g c = λ p. has_written_of_eq _ _ _ _ _ (sym (so_far_none typed_step (kept_step c.args.self.now.words.now))) (search rules)

pub loop-i-preserved : goal.loop-i-preserved
loop-i-preserved g c =
    λ p.
    let words = c.args.self.now.words.now in
    let i = c.loop-i.i in
    let chunks = c.as_chunks.result.0.now in
    let part = get_or (take c.at_most-count.result chunks) i [] in
    let before = c.loop-i.invariant p in
    let wrote = c.write.ensures.writes before.plain (search rules) in
    let long : length words ≡ 405 = search rules in
    let there = chunk_part words 3 402 67 c.at_most-count.result chunks (omega arith) (lit< tt) c.as_chunks.ensures.front_len i c.as_chunks.ensures.front c.loop-i-test.true in
    let same = step_part words part i there in
    has_written_of_eq _ _ _ _ _
    (
    ap (λ l. so_far typed_step (kept_step words) i ++ typed_step_as l (step_in part)) c.of_step.ensures
    ∙ ap (λ s. so_far typed_step (kept_step words) i ++ typed_step_as (step_letter i) s) same ∙ sym (so_far_more typed_step (kept_step words) i)
    )
    (has_written_append _ _ _ _ _ _ before wrote)

pub returns-clause-writes : goal.returns-clause-writes
unfolding kept_pattern
returns-clause-writes g c =
    λ plain ok.
    let words = c.args.self.now.words.now in
    let loop = c.loop-i.invariant plain in
    let last = c.write-2.ensures.writes loop.plain ok in
    let chunks = c.as_chunks.result.0.now in
    let long : length words ≡ 405 = search rules in
    let few = at_most_few 6 (get_or words 2 0) in
    let count = c.at_most-count.ensures in
    let all = turns words 3 402 67 c.at_most-count.result chunks (omega arith) (lit< tt) c.as_chunks.ensures.front_len c.loop-i.i (omega arith) c.loop-i.auto.i-end c.loop-i-test.false in
    let whole : so_far typed_step (kept_step words) c.loop-i.i ≡ typed_steps 0 (kept_pattern words).steps =
    ap (so_far typed_step (kept_step words)) (all ∙ count) ∙ all_steps (kept_step words) (kept_count words) in
    has_written_of_eq _ _ _ _ _ (ap (λ xs. xs ++ (codes "within " ++ (decimal (get_or words 0 0) ++ (codes " late " ++ decimal (get_or words 1 0))))) whole)
    (has_written_append _ _ _ _ _ _ loop last)
