use Rattle.std.proofs.Common.{◌≡◌, ◌/◌, ◌∙◌, ap, arith, length, drop, take, replicate, get_or, rules}
use Rattle.std.proofs.lemmas.List.{take_all, length-drop}
use Rattle.std.specs.Simd.{first_chunks}
use Rattle.patterns.specs.Kept.{step_in}
use Rattle.patterns.proofs.Chunks.{now_or, step_chunk}
use Rattle.patterns.proofs.kept.Kept.step.Goals as goal

pub returns : goal.returns
returns c =
    let words = c.args.self.words.now in
    let long : length words ≡ 405 = search rules in
    let rest : take 402 (drop 3 words) ≡ drop 3 words = take_all 402 (drop 3 words) (omega (arith, length-drop 3 words)) in
    let left : length (drop 3 words) ≡ 402 = omega (arith, length-drop 3 words) in
    let chunks = c.as_chunks.ensures.front ∙ ap (λ xs. first_chunks 67 (length xs / 67) xs) rest ∙ ap (λ n. first_chunks 67 (n / 67) (drop 3 words)) left in
    ap (λ r. step_in r.now) c.unwrap_or-words.ensures ∙ ap step_in (now_or c.get.result _ ∙ c.get.ensures.lookup.4 (omega arith) (replicate 67 0) ∙ ap (λ xs. get_or xs c.args.step (replicate 67 0)) chunks)
    ∙ step_chunk words c.args.step long
