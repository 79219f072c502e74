use Rattle.ix_fill_tables.specs.Holdings.{Adds, IsAmong}
use Rattle.ix_fill_tables.proofs.constants.ConstantWires.add_trees.Given as goal

abbrev pub invariant-loop-k : goal.invariant-loop-k
invariant-loop-k l = Adds (IsAmong l.device l.trees l.k l.constant) l.fn.self.holdings
    l.self.holdings
