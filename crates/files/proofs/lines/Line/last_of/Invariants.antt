use Rattle.std.proofs.Common.{◌≡◌, ◌+◌, ◌≤◌, drop}
use Rattle.files.specs.Lines.{line_behind, line_of}
use Rattle.files.proofs.lines.Line.last_of.Given as goal

-- the bytes that are left give the whole
abbrev pub invariant-loop-i : goal.invariant-loop-i
invariant-loop-i l =
    (line_behind l.line l.i (drop l.i l.bytes) ≡ line_of l.bytes) × (l.line.number ≤ l.i + 1) × (l.line.start ≤ l.i)
