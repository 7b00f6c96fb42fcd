use Rattle.std.proofs.Common.{◌≡◌, ℕ, ◌+◌, ◌*◌, [], ◌++◌, length, get_or, take, sym, ap, ◌∙◌, rules, arith, lit<}
use Rattle.std.proofs.Output.{has_written_append, has_written_of_eq}
use Rattle.timeline.specs.Lists.{flat}
use Rattle.patterns.specs.Patterns.{Never}
use Rattle.patterns.specs.Kept.{at_most, kept_tests, kept_never, kept_nevers}
use Rattle.syntax.specs.Typed.{typed_item, typed_never}
use Rattle.syntax.proofs.Parts.{part_front, chunk_part, turns, at_most_few, tests_part, never_part}
use Rattle.syntax.proofs.Texts.{so_far, so_far_none, so_far_more, all_nevers}
use Rattle.syntax.proofs.typed.TypedStepDisplay.fmt.Goals as goal

pub loop-part-init : goal.loop-part-init
loop-part-init g c = λ p. has_written_of_eq _ _ _ _ _ (sym (so_far_none (λ j v. typed_never v) (λ j. kept_never c.args.self.now.words.now (22 + 1 + 22 * j)))) (search rules)

pub loop-part-preserved : goal.loop-part-preserved
loop-part-preserved g c =
    λ p.
    let words = c.args.self.now.words.now in
    let i = c.loop-part.part-index in
    let chunks = c.as_chunks.result.0.now in
    let part = get_or (take c.at_most-count.result chunks) i [] in
    let before = c.loop-part.invariant p in
    let wrote = c.write.ensures.writes before.plain (search rules) in
    let long : length words ≡ 67 = search rules in
    let there = chunk_part words 23 44 22 c.at_most-count.result chunks (omega arith) (lit< tt) c.as_chunks.ensures.front_len i c.as_chunks.ensures.front c.loop-part-test.true in
    let place : 23 + 22 * i + 0 ≡ 22 + 1 + 22 * i = omega arith in
    let same = never_part words part (23 + 22 * i) 22 there 0 (omega arith) ∙ ap (kept_never words) place in
    let parts : ℕ → Never → _ = λ j v. typed_never v in
    let nevers : ℕ → Never = λ j. kept_never words (22 + 1 + 22 * j) in
    has_written_of_eq _ _ _ _ _ (ap (λ v. so_far parts nevers i ++ typed_never v) same ∙ sym (so_far_more parts nevers i)) (has_written_append _ _ _ _ _ _ before wrote)

pub returns-clause-writes : goal.returns-clause-writes
unfolding kept_nevers
returns-clause-writes g c =
    λ plain ok.
    let words = c.args.self.now.words.now in
    let own = c.args.self.now.letter.byte in
    let loop = c.loop-part.invariant plain in
    let last = c.write-2.ensures.writes loop.plain ok in
    let chunks = c.as_chunks.result.0.now in
    let long : length words ≡ 67 = search rules in
    let few = at_most_few 2 (get_or words 22 0) in
    let count = c.at_most-count.ensures in
    let all = turns words 23 44 22 c.at_most-count.result chunks (omega arith) (lit< tt) c.as_chunks.ensures.front_len c.loop-part.part-index (omega arith) c.loop-part.auto.part-index-end c.loop-part-test.false in
    let parts : ℕ → Never → _ = λ j v. typed_never v in
    let nevers : ℕ → Never = λ j. kept_never words (22 + 1 + 22 * j) in
    let whole : so_far parts nevers c.loop-part.part-index ≡ flat typed_never (kept_nevers words 22) =
    ap (so_far parts nevers) (all ∙ count) ∙ all_nevers nevers (at_most 2 (get_or words 22 0)) in
    let item = c.unwrap.result.now in
    let front : item ≡ take 22 words = (rw c.unwrap.ensures at c.first_chunk.ensures.cases).same in
    let tests = ap (λ xs. kept_tests xs 1) front ∙ tests_part words (take 22 words) 0 22 (part_front words 22) 1 (omega arith) in
    let kind = ap (λ xs. get_or xs 0 0) front ∙ part_front words 22 0 (omega arith) in
    has_written_of_eq _ _ _ _ _
    (
    ap (λ xs. xs ++ typed_item (get_or item 0 0) own (kept_tests item 1)) whole
    ∙ ap (λ k. flat typed_never (kept_nevers words 22) ++ typed_item k own (kept_tests item 1)) kind
    ∙ ap (λ ts. flat typed_never (kept_nevers words 22) ++ typed_item (get_or words 0 0) own ts) tests
    )
    (has_written_append _ _ _ _ _ _ loop last)
