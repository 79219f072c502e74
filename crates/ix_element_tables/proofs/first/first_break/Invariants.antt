use Rattle.ix_element_tables.specs.Least.{IsLeast}
use Rattle.ix_element_tables.proofs.first.first_break.Given as goal

abbrev pub invariant-loop-placement : goal.invariant-loop-placement
invariant-loop-placement l = IsLeast l.on.names.now l.on.device.now l.on.phys.now l.placement
    l.first
