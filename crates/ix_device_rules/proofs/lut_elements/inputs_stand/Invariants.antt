use Rattle.std.proofs.Common.{take, Ok}
use Rattle.std.specs.List.{flat_map}
use Rattle.ix_device_rules.specs.Walks.{Walks}
use Rattle.ix_device_rules.specs.Luts.{parts_of, input_by}
use Rattle.ix_device_rules.proofs.lut_elements.inputs_stand.Given as goal

abbrev pub invariant-loop-i : goal.invariant-loop-i
invariant-loop-i l =
    Walks {X = Unit {0}} (flat_map (input_by (parts_of l.parts) l.bel) (take l.i l.pins)) l.fn.walk (Ok tt) l.walk
