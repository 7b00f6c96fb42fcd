use Rattle.std.proofs.Common.{◌≡◌, ℕ, ◌+◌, ◌*◌, [], ◌∷◌, ◌++◌, length, get_or, take, codes, decimal, sym, ap, ◌∙◌, append_assoc, rules, arith, lit<}
use Rattle.std.proofs.Output.{has_written_append, has_written_of_eq}
use Rattle.patterns.specs.Patterns.{Test}
use Rattle.patterns.specs.Kept.{at_most, kept_test, kept_tests}
use Rattle.patterns.specs.Codes.{test_of}
use Rattle.syntax.specs.Typed.{joint, typed_test, typed_tests}
use Rattle.syntax.proofs.Parts.{chunk_part, turns, at_most_few, test_part}
use Rattle.syntax.proofs.Texts.{so_far, so_far_none, so_far_more, all_tests, same_typed}
use Rattle.syntax.proofs.typed.TypedItemDisplay.fmt.Goals as goal

pub loop-i-init : goal.loop-i-init
loop-i-init g c = λ p. has_written_of_eq _ _ _ _ _ (sym (so_far_none (λ j t. joint j ++ typed_test c.args.self.now.letter.byte t) (λ j. kept_test c.args.self.now.words.now (1 + 1 + 5 * j)))) (search rules)

pub loop-i-preserved : goal.loop-i-preserved
loop-i-preserved g c =
    λ p.
    let words = c.args.self.now.words.now in
    let own = c.args.self.now.letter.byte in
    let i = c.loop-i.i in
    let chunks = c.as_chunks.result.0.now in
    let part = get_or (take c.at_most-count.result chunks) i [] in
    let before = c.loop-i.invariant p in
    let wrote = c.write-in-loop-i.ensures.writes before.plain (search rules) in
    let long : length words ≡ 22 = search rules in
    let there = chunk_part words 2 20 5 c.at_most-count.result chunks (omega arith) (lit< tt) c.as_chunks.ensures.front_len i c.as_chunks.ensures.front c.loop-i-test.true in
    let place : 2 + 5 * i + 0 ≡ 1 + 1 + 5 * i = omega arith in
    let same = test_part words part (2 + 5 * i) 5 there 0 (omega arith) ∙ ap (kept_test words) place in
    let text : c.joint-joint.result.now ++ typed_test own (test_of c.from.result) ≡ joint i ++ typed_test own (kept_test words (1 + 1 + 5 * i)) =
    ap (λ xs. xs ++ typed_test own (test_of c.from.result)) c.joint-joint.ensures
    ∙ ap (λ t. joint i ++ typed_test own (test_of t)) c.from.ensures
    ∙ ap (λ xs. joint i ++ xs) (same_typed own (kept_test part 0) ∙ ap (typed_test own) same) in
    let parts : ℕ → Test → _ = λ j t. joint j ++ typed_test own t in
    let tests : ℕ → Test = λ j. kept_test words (1 + 1 + 5 * j) in
    has_written_of_eq _ _ _ _ _ (ap (λ xs. so_far parts tests i ++ xs) text ∙ sym (so_far_more parts tests i)) (has_written_append _ _ _ _ _ _ before wrote)

pub returns-clause-writes : goal.returns-clause-writes
unfolding kept_tests
returns-clause-writes g c =
    λ plain ok.
    let words = c.args.self.now.words.now in
    let own = c.args.self.now.letter.byte in
    let one = c.write.ensures.writes plain (search rules) in
    let loop = c.loop-i.invariant one.plain in
    let last = c.write-2.ensures.writes loop.plain ok in
    let chunks = c.as_chunks.result.0.now in
    let long : length words ≡ 22 = search rules in
    let few = at_most_few 4 (get_or words 1 0) in
    let count = c.at_most-count.ensures in
    let all = turns words 2 20 5 c.at_most-count.result chunks (omega arith) (lit< tt) c.as_chunks.ensures.front_len c.loop-i.i (omega arith) c.loop-i.auto.i-end c.loop-i-test.false in
    let parts : ℕ → Test → _ = λ j t. joint j ++ typed_test own t in
    let tests : ℕ → Test = λ j. kept_test words (1 + 1 + 5 * j) in
    let whole : so_far parts tests c.loop-i.i ≡ typed_tests own (kept_tests words 1) =
    ap (so_far parts tests) (all ∙ count) ∙ all_tests own tests (at_most 4 (get_or words 1 0)) in
    has_written_of_eq _ _ _ _ _
    (
    append_assoc (decimal (get_or words 0 0) ++ (32 ∷ own ∷ [])) (so_far parts tests c.loop-i.i) (codes "; ")
    ∙ append_assoc (decimal (get_or words 0 0)) (32 ∷ own ∷ []) (so_far parts tests c.loop-i.i ++ codes "; ")
    ∙ ap (λ xs. decimal (get_or words 0 0) ++ (32 ∷ own ∷ (xs ++ codes "; "))) whole
    )
    (has_written_append _ _ _ _ _ _ (has_written_append _ _ _ _ _ _ one loop) last)
