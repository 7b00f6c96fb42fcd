use Rattle.std.proofs.Common.{◌≡◌, [], drop, vec_items}
use Rattle.timeline.specs.Lists.{flat}
use Rattle.patterns.specs.Kept.{kept_pattern}
use Rattle.rows.specs.Rows.{rows}
use Rattle.rows.specs.Finder.{lists}
use Rattle.rows.proofs.finder.rows_among.Given as goal

-- the rows so far go on by the steps that are left to the rows of all steps
abbrev pub invariant-loop-step : goal.invariant-loop-step
invariant-loop-step l =
    flat (rows l.all (kept_pattern l.pattern.words.now).within (drop l.step (kept_pattern l.pattern.words.now).steps)) (lists (vec_items l.rows))
    ≡ rows l.all (kept_pattern l.pattern.words.now).within (kept_pattern l.pattern.words.now).steps []
