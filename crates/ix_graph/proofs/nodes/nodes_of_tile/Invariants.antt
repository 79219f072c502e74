use Rattle.ix_graph.proofs.TileNumbers.{AreNumbered}
use Rattle.ix_graph.proofs.nodes.nodes_of_tile.Given as goal

abbrev pub invariant-loop-i : goal.invariant-loop-i
invariant-loop-i l = AreNumbered l.device l.tile l.i l.numbers l.firsts
