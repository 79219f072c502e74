use Rattle.std.specs.FinMap.{entries}
use Rattle.ix_fill_tables.proofs.Adding.{IsAdding}
use Rattle.ix_fill_tables.proofs.properties.add_tables.Given as goal

abbrev pub invariant-loop-at : goal.invariant-loop-at
invariant-loop-at l = IsAdding l.fn.names l.instances l.fn.properties (entries l.forced)
    l.at-iterator l.names l.properties
