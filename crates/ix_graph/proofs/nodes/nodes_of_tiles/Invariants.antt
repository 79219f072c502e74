use Rattle.ix_graph.proofs.TileNumbers.{TilesNumbered}
use Rattle.ix_graph.proofs.nodes.nodes_of_tiles.Given as goal

abbrev pub invariant-loop-i : goal.invariant-loop-i
invariant-loop-i l = TilesNumbered l.device l.fn.tables.items l.i-iterator.count l.i-iterator.iter.rest.items l.i-iterator.iter.rest.len l.wires l.firsts
