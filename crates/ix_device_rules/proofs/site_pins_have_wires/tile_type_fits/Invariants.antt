use Rattle.std.proofs.Common.{take, Ok}
use Rattle.std.specs.List.{flat_map}
use Rattle.ix_device_rules.specs.Rules
use Rattle.ix_device_rules.specs.Walks.{Walks}
use Rattle.ix_device_rules.proofs.site_pins_have_wires.tile_type_fits.Given as goal

abbrev pub invariant-loop-i : goal.invariant-loop-i
invariant-loop-i l =
    Walks {X = Unit {0}} (flat_map (Rules.site_pins_stand l.rec l.tile_type) (take l.i l.tile_type.site_types)) l.fn.walk (Ok tt) l.walk
