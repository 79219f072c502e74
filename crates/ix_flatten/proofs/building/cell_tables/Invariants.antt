use Rattle.ix_flatten.proofs.Tables.{AreTablesTo}
use Rattle.ix_flatten.proofs.building.cell_tables.Given as goal

abbrev pub invariant-loop-k : goal.invariant-loop-k
invariant-loop-k l = AreTablesTo l.joined l.ports l.leaves l.tables l.k l.of_cells
