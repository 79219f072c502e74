use Rattle.std.proofs.Common.{◌≡◌, length, take}
use Rattle.ix_belmap.specs.Marks.{AddsMarks}
use Rattle.ix_belmap.proofs.marks.mark.Given as goal

-- the first cells are marked
abbrev pub invariant-loop-i : goal.invariant-loop-i
invariant-loop-i l =
    (length l.taken.items ≡ length l.fn.taken.items)
    × AddsMarks (take l.i l.cells.items) l.fn.taken.items l.taken.items
