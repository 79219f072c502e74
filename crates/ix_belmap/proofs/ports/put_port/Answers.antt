use Rattle.std.proofs.Common.{◌∙◌}
use Rattle.ix_belmap.specs.Pins.{fixing_of}
use Rattle.ix_belmap.proofs.Bits.{fixing_told}
use Rattle.ix_belmap.proofs.Lists.{numbers_next}
use Rattle.ix_belmap.proofs.ports.put_port.Goals as goal

pub loop-index-preserved : goal.loop-index-preserved
loop-index-preserved c =
    numbers_next (λ index. fixing_of c.args.names.now c.args.device.now c.args.pins.now
    (c.args.port.now, index))
    c.args.fixings.now c.loop-index.fixings c.push.new.self c.loop-index.index c.in_ok-fixing.fixing
    c.loop-index.invariant c.in_ok-push.ensures.ok
    (c.in_ok-fixing.ensures c.args.port.now.prop_map.entries c.in_ok-values.ensures
    ∙ fixing_told c.args.names.now c.args.device.now c.args.pins.now c.args.port.now
    c.loop-index.index)
