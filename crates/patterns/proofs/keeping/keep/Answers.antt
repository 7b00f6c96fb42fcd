use Rattle.std.proofs.Common.{ap, ◌∙◌}
use Rattle.std.specs.Result.{result_ok}
use Rattle.patterns.specs.Numbers.{pattern_in}
use Rattle.patterns.specs.Kept.{kept_pattern}
use Rattle.patterns.proofs.Back.{reads_back}
use Rattle.patterns.proofs.keeping.keep.Goals as goal

pub returns : goal.returns
returns c =
    let read = c.ok_or.ensures.ok_part ∙ ap result_ok c.in_ok-words.was in
    let h = rw read at c.pattern.ensures in
    let whole = c.copy_from_slice.ensures.after ∙ h.1 in
    (c.if-kept-ne-PATTERN_WORDS.false, h.0, whole, ap kept_pattern whole ∙ reads_back (pattern_in c.args.row.now) h.0)
