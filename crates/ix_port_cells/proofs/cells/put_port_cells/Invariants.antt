use Rattle.ix_port_cells.proofs.Whole.{IsWalked}
use Rattle.ix_port_cells.proofs.cells.put_port_cells.Given as goal

abbrev pub invariant-loop-k : goal.invariant-loop-k
invariant-loop-k l = IsWalked l.rec l.fn.names l.names l.fn.left l.left l.k l.cells.items
