-- What is read of a pattern, as numbers.
-- Assumes nothing: these are definitions.
use Rattle.std.specs.Prelude.{◌≡◌, ◌+◌, ◌≤◌}
use Rattle.timeline.specs.Lists.{each, flat}
use Rattle.arrayvec.specs.ArrayVec.{array_vec_len}
use Rattle.patterns.specs.Kept.{test_cells}
use Rattle.syntax.specs.declared.drafts.Draft.{Draft}
use Rattle.syntax.specs.Rows.{never_row, step_row}
use Rattle.syntax.specs.Reading.{Built}

-- a draft holds the numbers of what is read
pub record Drawn (d : Draft) (w : Built) : Type 0 where
  pub steps : d.steps.items ≡ flat step_row w.steps
  pub names : d.names.items ≡ w.names
  pub nevers : each (λ v. v.items) d.nevers.items ≡ each never_row w.nevers
  pub tests : d.tests.items ≡ each test_cells w.tests

-- a draft has room for one more of anything
pub record Roomy (d : Draft) : Type 0 where
  pub steps : array_vec_len d.steps + 67 ≤ 512
  pub names : array_vec_len d.names + 1 ≤ 8
  pub nevers : array_vec_len d.nevers ≤ 2
  pub tests : array_vec_len d.tests ≤ 4
