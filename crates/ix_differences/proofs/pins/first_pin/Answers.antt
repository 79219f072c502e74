use Rattle.ix_differences.proofs.Turns.{first_pin_is}
use Rattle.ix_differences.proofs.pins.first_pin.Goals as goal

pub returns : goal.returns
returns c = first_pin_is c.args.names.now c.args.a.now.flat.now c.args.b.now.flat.now
    c.first_of-in_a.result c.first_of-in_b.result c.earlier_pin.result c.first_of-in_a.ensures
    c.first_of-in_b.ensures c.earlier_pin.ensures
