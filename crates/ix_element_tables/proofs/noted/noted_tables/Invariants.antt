use Rattle.ix_element_tables.specs.Noted.{AreNoted}
use Rattle.ix_element_tables.proofs.noted.noted_tables.Given as goal

abbrev pub invariant-loop-placement : goal.invariant-loop-placement
invariant-loop-placement l = AreNoted l.on.names.now l.on.device.now l.on.phys.now
    l.on.numbers.now l.placement l.tables
