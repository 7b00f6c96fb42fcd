use Rattle.std.proofs.Common.{◌≡◌, ◌+◌, length}
use Rattle.std.specs.Iterator.Adapters.{zip_first, zip_second}
use Rattle.std.specs.Slice.Iter.{iter_rest}
use Rattle.rows.specs.Rows.{row_before}
use Rattle.rows.proofs.told.row_before.Given as goal

-- what is left of both is before as the whole is
abbrev pub invariant-loop-x : goal.invariant-loop-x
invariant-loop-x l =
    (goal.iterator-loop-x).can_next l.x-iterator
    × (goal.iterator-loop-x).is_finite l.x-iterator
    × (row_before (iter_rest (zip_first l.x-iterator)) (iter_rest (zip_second l.x-iterator)) ≡ row_before l.a l.b)
    × (length l.a + length (iter_rest (zip_second l.x-iterator)) ≡ length l.b + length (iter_rest (zip_first l.x-iterator)))
