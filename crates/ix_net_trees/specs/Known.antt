-- What is known of a netlist on a device.
use Rattle.std.specs.Prelude.{◌≡◌}
use Rattle.ix_graph.specs.Graph.{graph_of}
use Rattle.ix_ends.specs.Ends.{AreEnds}
use Rattle.ix_uses.specs.Uses.{AreUses}
use Rattle.ix_net_trees.specs.Mapped.{AreMapped}
use Rattle.ix_net_trees.specs.declared.known.Known.{Known}

-- the graph is the device's, and the others are those of the netlist
pub record AreKnown (known : Known) : Type 0 where
  pub graph : known.graph.now ≡ graph_of known.device.now
  pub ends : AreEnds known.device.now known.phys.now known.ends.now
  pub uses : AreUses known.phys.now known.uses.now
  pub mapped : AreMapped known.phys.now known.mapped.now
