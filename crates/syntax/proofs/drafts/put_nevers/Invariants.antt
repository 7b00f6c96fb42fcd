use Rattle.std.proofs.Common.{◌≡◌, ◌+◌, ◌*◌, ◌≤◌, ◌++◌, length, take}
use Rattle.std.specs.List.{flat_map}
use Rattle.syntax.proofs.drafts.put_nevers.Given as goal

-- the nevers so far are put, and each took 22 numbers at most
abbrev pub invariant-loop-never : goal.invariant-loop-never
invariant-loop-never l =
    (l.row.items ≡ l.initial.row.items ++ flat_map (λ v. v.items) (take l.never-index l.nevers))
    × (length l.row.items ≤ length l.initial.row.items + 22 * l.never-index)
