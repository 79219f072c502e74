use Rattle.ix_device_rules.proofs.PartLemmas.{Filled, pin_part, pin_name}
use Rattle.ix_device_rules.proofs.tables.bel_pins_of.Given as goal

abbrev pub invariant-loop-i : goal.invariant-loop-i
invariant-loop-i l =
    Filled (λ t. t.bel_pins) pin_part pin_name l.table l.types l.i
