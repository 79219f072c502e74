use Rattle.ix_belmap.specs.Marks.{lists_of}
use Rattle.ix_belmap.proofs.Pinned.{KnowsRows}
use Rattle.ix_belmap.proofs.nets.inner_rows.Given as goal

abbrev pub invariant-loop-cell : goal.invariant-loop-cell
invariant-loop-cell l = KnowsRows l.flat (lists_of l.rows.items) l.cell-iterator
