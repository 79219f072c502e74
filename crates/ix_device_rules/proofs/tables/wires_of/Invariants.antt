use Rattle.ix_device_rules.proofs.PartLemmas.{Filled, wire_part, wire_name}
use Rattle.ix_device_rules.proofs.tables.wires_of.Given as goal

abbrev pub invariant-loop-i : goal.invariant-loop-i
invariant-loop-i l =
    Filled (λ t. t.wires) wire_part wire_name l.table l.types l.i
