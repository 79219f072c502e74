use Rattle.std.proofs.Common.{refl, arith}
use Rattle.ix_named_there.specs.Parts.{PinIsNamed}
use Rattle.ix_named_there.proofs.Turns.{by_recursion}
use Rattle.ix_named_there.proofs.placements.has_pins.Goals as goal

pub returns : goal.returns
returns c site is = (
  λ so. by_recursion (PinIsNamed c.args.device.now site) c.args.pin_map.now c.loop-i.i
      (omega arith) (c.loop-i.invariant site is),
  λ all. refl,
)
