use Rattle.patterns.specs.Kept.{kept_pattern}
use Rattle.rows.proofs.Searching.{Going, moves_left}
use Rattle.rows.proofs.levels.Search.first_row.Given as goal

abbrev pub invariant-loop-choice : goal.invariant-loop-choice
invariant-loop-choice l =
    Going l.steps l.self.held (kept_pattern l.self.kept.words.now) l.upto l.fn.cursor l.choice.at l.choice.row l.choice.depth

abbrev pub decreases-loop-choice : goal.decreases-loop-choice
decreases-loop-choice l = moves_left (kept_pattern l.self.kept.words.now) l.upto l.choice.at l.choice.depth
