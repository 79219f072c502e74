use Rattle.ix_first_fit.proofs.Netlists.{pin_step}
use Rattle.ix_first_fit.proofs.pin_map.named_pins.Goals as goal

pub loop-i-preserved : goal.loop-i-preserved
loop-i-preserved c = pin_step c.args.ty.now c.args.bel c.args.pins.now c.loop-i.i c.loop-i.named c.push.new.self c.at.result.now c.in_ok-named_pin.field-0 c.at.ensures c.in_ok-named_pin.ensures c.loop-i.invariant c.in_ok-push.ensures.ok
