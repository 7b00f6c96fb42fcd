use Rattle.std.proofs.Common.{◌≡◌, ◌++◌, drop, vec_items}
use Rattle.timeline.specs.Lists.{flat}
use Rattle.patterns.specs.Kept.{kept_step, kept_pattern}
use Rattle.rows.specs.Finder.{lists, longer}
use Rattle.rows.proofs.extension.Extension.all_go_on.Given as goal

-- what the rows that are left go on to, behind what is found, gives the whole
abbrev pub invariant-loop-row : goal.invariant-loop-row
invariant-loop-row l =
    lists (vec_items l.long)
    ++ flat (longer l.self.all.now (kept_pattern l.self.pattern.words.now).within (kept_step l.self.pattern.words.now l.self.step)) (lists (drop l.row-index l.rows))
    ≡ flat (longer l.self.all.now (kept_pattern l.self.pattern.words.now).within (kept_step l.self.pattern.words.now l.self.step)) (lists l.rows)
