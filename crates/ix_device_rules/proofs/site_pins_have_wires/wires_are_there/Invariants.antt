use Rattle.std.proofs.Common.{take, Ok}
use Rattle.std.specs.List.{flat_map}
use Rattle.ix_device_rules.specs.Walks.{Walks}
use Rattle.ix_device_rules.specs.Tables.{wire_is_there}
use Rattle.ix_device_rules.proofs.site_pins_have_wires.wires_are_there.Given as goal

abbrev pub invariant-loop-i : goal.invariant-loop-i
invariant-loop-i l =
    Walks {X = Unit {0}} (flat_map (wire_is_there l.wires l.number) (take l.i l.names)) l.fn.walk (Ok tt) l.walk
