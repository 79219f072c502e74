use Rattle.std.proofs.Common.{take, sym}
use Rattle.std.specs.List.{flat_map}
use Rattle.ix_device_rules.specs.Rules
use Rattle.ix_device_rules.proofs.Steps.{walks_as, flat_up_to, each_none, each_more, each_stops}
use Rattle.ix_device_rules.proofs.TableLemmas.{same_none, same_as, same_join}
use Rattle.ix_device_rules.specs.TileWires.{node_keys}
use Rattle.ix_device_rules.proofs.TileWireLemmas.{node_steps}
use Rattle.ix_device_rules.proofs.wires_stand.nodes_stand.Goals as goal

pub loop-i-init : goal.loop-i-init
loop-i-init c = record { walked = each_none (Rules.node_wires c.args.rec.now) c.args.rec.now.nodes c.args.walk.now; table_is = same_none _ c.new-taken.ensures }

pub loop-i-preserved : goal.loop-i-preserved
loop-i-preserved c =
    let rec = c.args.rec.now in
    let n = c.at.result.now in
    let before = take c.loop-i.i rec.nodes in
    let as_nodes = node_steps rec before c.loop-i.taken c.loop-i.invariant.table_is n in
    record {
      walked = each_more (Rules.node_wires rec) (rec.nodes) c.loop-i.i c.at.result.now c.at.ensures c.loop-i.invariant.walked (walks_as as_nodes c.in-Ok.ensures.walks);
      table_is = same_as (sym (flat_up_to (node_keys rec.wires) rec.nodes c.loop-i.i n c.at.ensures)) (same_join c.loop-i.taken c.node_stands.new.taken (flat_map (node_keys rec.wires) before) (node_keys rec.wires n) c.loop-i.invariant.table_is c.in-Ok.ensures.taken);
    }

pub returns-in-Err : goal.returns-in-Err
returns-in-Err c =
    let rec = c.args.rec.now in
    let n = c.at.result.now in
    let before = take c.loop-i.i rec.nodes in
    let as_nodes = node_steps rec before c.loop-i.taken c.loop-i.invariant.table_is n in
    each_stops (Rules.node_wires rec) (rec.nodes) _ c.loop-i.i c.at.result.now c.at.ensures c.loop-i.invariant.walked (walks_as as_nodes c.in-Err.ensures.walks)
