use Rattle.std.proofs.Common.{length, drop, sym, ap, ◌∙◌}
use Rattle.std.proofs.lemmas.List.{take_at}
use Rattle.patterns.specs.Limits.{a_pattern}
use Rattle.patterns.specs.Numbers.{pattern_in}
use Rattle.syntax.proofs.Meaning.{rowed_may_be}
use Rattle.syntax.proofs.reading.read.Goals as goal

pub returns-clause-pattern : goal.returns-clause-pattern
returns-clause-pattern c =
    let n = c.len-needed.result in
    let new = c.copy_from_slice.new.self in
    let same = c.copy_from_slice.ensures.after ∙ c.as_slice.ensures.value in
    let front = take_at new (drop n c.args.out.now) n (ap length same ∙ sym c.len-needed.ensures.value) in
    ap (λ xs. a_pattern (pattern_in xs)) (front ∙ same) ∙ rowed_may_be c.args.text.now c.in_ok-row.row c.in_ok-row.ensures
