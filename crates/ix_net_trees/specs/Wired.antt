-- A netlist on a device.
use Rattle.ix_legal.specs.Legal.{IsSmall}
use Rattle.ix_ends.specs.Ends.{AreEnds}
use Rattle.ix_net_trees.specs.declared.wiring.Wiring.{Wiring}

-- the ends are those of the netlist, whose lists are short
pub record AreWired (wiring : Wiring) : Type 0 where
  pub small : IsSmall wiring.phys.now
  pub ends : AreEnds wiring.device.now wiring.phys.now wiring.ends.now
