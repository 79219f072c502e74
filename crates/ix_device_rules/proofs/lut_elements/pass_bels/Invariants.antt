use Rattle.std.proofs.Common.{take, Ok}
use Rattle.std.specs.List.{flat_map}
use Rattle.ix_device_rules.specs.Luts.{passed_bel}
use Rattle.ix_device_rules.specs.Walks.{Walks}
use Rattle.ix_device_rules.proofs.lut_elements.pass_bels.Given as goal

abbrev pub invariant-loop : goal.invariant-loop
invariant-loop l = Walks {X = Unit {0}} (flat_map passed_bel (take l.counter l.element.bels)) l.fn.walk (Ok tt) l.walk
