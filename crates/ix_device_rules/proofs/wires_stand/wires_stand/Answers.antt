use Rattle.ix_device_rules.specs.Rules
use Rattle.ix_device_rules.proofs.Steps.{walks_then, stops_too}
use Rattle.ix_device_rules.proofs.wires_stand.wires_stand.Goals as goal

pub returns-in-Err : goal.returns-in-Err
unfolding Rules.wires_stand
returns-in-Err c = stops_too (Rules.each_by_earlier (Rules.node_wires c.args.rec.now) c.args.rec.now.nodes) (c.in-Err.ensures)

pub returns-in-Ok : goal.returns-in-Ok
unfolding Rules.wires_stand
returns-in-Ok c = walks_then (c.in-Ok.ensures) (c.nodes_stand.ensures)
