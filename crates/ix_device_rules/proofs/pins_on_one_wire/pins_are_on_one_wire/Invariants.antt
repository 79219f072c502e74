use Rattle.std.proofs.Common.{take, Ok}
use Rattle.std.specs.List.{flat_map}
use Rattle.ix_device_rules.specs.Rules
use Rattle.ix_device_rules.specs.Walks.{Walks}
use Rattle.ix_device_rules.proofs.pins_on_one_wire.pins_are_on_one_wire.Given as goal

abbrev pub invariant-loop-i : goal.invariant-loop-i
invariant-loop-i l =
    Walks {X = Unit {0}} (flat_map (Rules.pins_of_site_wires) (take l.i l.rec.site_type_list)) l.fn.walk (Ok tt) l.walk
