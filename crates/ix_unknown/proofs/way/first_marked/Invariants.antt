use Rattle.std.proofs.Common.{◌≡◌, Some, slice_get}
use Rattle.ix_rec.specs.declared.netlist.Cell.{Cell}
use Rattle.ix_unknown.specs.Marked.{NoneMarked}
use Rattle.ix_unknown.proofs.way.first_marked.Given as goal

abbrev pub invariant-loop-place : goal.invariant-loop-place
invariant-loop-place l = (cell : Cell) → slice_get l.fn.rec.cell_list l.cell ≡ Some cell
    → NoneMarked l.fn.rec l.marks cell l.place
