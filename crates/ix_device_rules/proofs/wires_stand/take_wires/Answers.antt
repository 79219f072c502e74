use Rattle.ix_device_rules.proofs.TableLemmas.{same_begin}
use Rattle.ix_device_rules.specs.TileWires.{wire_keys}
use Rattle.ix_device_rules.proofs.TableLemmas.{same_flat_on}
use Rattle.ix_device_rules.proofs.wires_stand.take_wires.Goals as goal

pub loop-i-init : goal.loop-i-init
loop-i-init c = same_begin c.args.taken.now

pub loop-i-preserved : goal.loop-i-preserved
loop-i-preserved c = same_flat_on (wire_keys c.args.wires.now) c.args.taken.now c.args.node.now.wires c.loop-i.i c.at.result.now c.loop-i.taken c.take_wire.new.taken c.at.ensures c.loop-i.invariant c.in-Ok.ensures
