use Rattle.std.proofs.Common.{◌≡◌, [], ◌∷◌, ◌++◌, vec_items}
use Rattle.patterns.specs.Kept.{kept_step, kept_pattern}
use Rattle.rows.specs.Rows.{goes_on}
use Rattle.rows.specs.Finder.{lists, longer}
use Rattle.rows.proofs.Passing.{rest_put}
use Rattle.rows.proofs.extension.Extension.go_on.Given as goal

abbrev pub invariant-loop-e : goal.invariant-loop-e
invariant-loop-e l =
    rest_put (goes_on l.self.all.now (kept_pattern l.self.pattern.words.now).within l.row (kept_step l.self.pattern.words.now l.self.step)) (λ e. l.row ++ e ∷ []) l.self.all.now l.e-index (lists (vec_items l.rows))
    ≡ lists (vec_items l.initial.rows) ++ longer l.self.all.now (kept_pattern l.self.pattern.words.now).within (kept_step l.self.pattern.words.now l.self.step) l.row
