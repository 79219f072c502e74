use Rattle.std.proofs.Common.{take, Ok}
use Rattle.std.specs.List.{flat_map}
use Rattle.ix_device_rules.specs.Rules
use Rattle.ix_device_rules.specs.Walks.{Walks}
use Rattle.ix_device_rules.proofs.site_pins_have_wires.site_pins_have_wires.Given as goal

abbrev pub invariant-loop-i : goal.invariant-loop-i
invariant-loop-i l =
    Walks {X = Unit {0}} (flat_map (Rules.sites_of_tile_type l.rec) (take l.i l.rec.tile_type_list)) l.fn.walk (Ok tt) l.walk
