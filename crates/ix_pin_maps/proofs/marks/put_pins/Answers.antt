use Rattle.std.proofs.Common.{◌<◌, ◌∙◌, ap, length, nat_eq, arith}
use Rattle.ix_first.specs.First.{or_later}
use Rattle.ix_device.proofs.FirstPlaces.{one_more_found}
use Rattle.ix_device.specs.PinsListed.{pins_listed}
use Rattle.ix_pin_maps.proofs.marks.put_pins.Goals as goal

pub loop-i-preserved : goal.loop-i-preserved
loop-i-preserved c = record {
  pins = λ name less.
      let before : name < length c.loop-i.marks = omega (arith, less, c.put.auto.marks) in
      let pin = c.at-cell_pin.result in
      c.put.ensures.pins name before
      ∙ ap (λ o. or_later o (nat_eq pin.0 name) pin.1) (c.loop-i.invariant.pins name before)
      ∙ one_more_found (λ p. nat_eq p.0 name) (λ p. p.1) (pins_listed c.args.pins.now) c.loop-i.i
      pin c.at-cell_pin.ensures;
  older = c.put.ensures.older;
}
