use Rattle.std.proofs.Common.{arith}
use Rattle.ix_belmap.specs.Pins.{fixing_of}
use Rattle.ix_belmap.proofs.Bits.{all_ports, ports_next}
use Rattle.ix_belmap.proofs.ports.fixings.Goals as goal

pub loop-i-init : goal.loop-i-init
loop-i-init c = c.new-all.ensures

pub loop-i-preserved : goal.loop-i-preserved
loop-i-preserved c =
    ports_next (fixing_of c.args.names.now c.args.device.now c.in_ok-pins.pins.now)
    c.args.design.now
    c.at-top.result.now c.loop-i.i c.at.result.now c.at-port.result.now c.loop-i.all
    c.put_port.new.fixings
    c.at.ensures c.at-port.ensures c.loop-i.invariant c.in_ok-put_port.ensures

pub returns : goal.returns
returns c =
    all_ports c.args.names.now c.args.device.now c.args.design.now c.in_ok-pins.pins.now
    c.at-top.result.now
    c.loop-i.i c.loop-i.all c.at-top.ensures (omega arith) c.in_ok-pins.ensures c.loop-i.invariant
