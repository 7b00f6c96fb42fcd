-- What a count of 0 means of kept tests. No proof cites it today (`Item::is_free` looks at the tests themselves); docs/PORT.md names it.
use Rattle.std.proofs.Common.{◌≡◌, ℕ, List, [], get_or, refl}
use Rattle.timeline.specs.Lists.{each, run}
use Rattle.patterns.specs.Kept.{kept_tests}

-- where the count is 0 there are none
pub tests_none : (c : List ℕ) (n : ℕ) → get_or c n 0 ≡ 0 → kept_tests c n ≡ []
unfolding kept_tests each run
tests_none c n e = rw e refl
