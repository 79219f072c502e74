use Rattle.std.proofs.Common.{◌≤◌, length}
use Rattle.ix_reach.specs.Cells.{AreCellsFrom}
use Rattle.ix_reach.proofs.cells.cell_table.Given as goal

abbrev pub invariant-loop-cell : goal.invariant-loop-cell
invariant-loop-cell l = record {
  most : l.cell ≤ length l.rec.cell_list;
  is : AreCellsFrom l.rec l.cell l.first.items l.next.items;
}

abbrev pub decreases-loop-cell : goal.decreases-loop-cell
decreases-loop-cell l = l.cell
