use Rattle.std.specs.FinMap.{empty}
use Rattle.ix_fill_tables.specs.Holdings.{Adds, IsOfNets}
use Rattle.ix_fill_tables.proofs.constants.ConstantWires.new.Given as goal

abbrev pub invariant-loop-n : goal.invariant-loop-n
invariant-loop-n l = Adds (IsOfNets l.device l.phys.nets l.n) empty l.wires.holdings
