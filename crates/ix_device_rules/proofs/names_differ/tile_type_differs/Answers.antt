use Rattle.ix_device_rules.specs.Rules
use Rattle.ix_device_rules.proofs.Steps.{walks_first, walks_stop_first}
use Rattle.ix_device_rules.proofs.names_differ.tile_type_differs.Goals as goal

pub returns-in-Ok : goal.returns-in-Ok
returns-in-Ok c = walks_first c.in-Ok.ensures c.wires_differ.ensures

pub returns-in-Err : goal.returns-in-Err
returns-in-Err c = walks_stop_first (Rules.each_by_earlier Rules.wire_names c.args.tile_type.now.wires) _ c.in-Err.ensures
