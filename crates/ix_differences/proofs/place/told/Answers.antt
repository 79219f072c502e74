use Rattle.std.proofs.Common.{subst}
use Rattle.ix_rec.specs.declared.place.Place.TheVariants.{Pin}
use Rattle.ix_differences.specs.Found.{IsFound}
use Rattle.ix_differences.proofs.Printed.{pin_told}
use Rattle.ix_differences.proofs.place.told.Goals as goal

pub returns-in_ok-pin-in-AtPin : goal.returns-in_ok-pin-in-AtPin
returns-in_ok-pin-in-AtPin c a b found =
    let first = subst (IsFound c.args.names.now a b) c.in-AtPin.is found in (
      first.0,
      pin_told c.args.names.now a b c.in-AtPin.at c.name-in-AtPin.result.now
          c.name-in-AtPin-2.result.now (Pin c.in_ok-cell-in-AtPin.cell c.in_ok-pin-in-AtPin.pin)
          c.name-in-AtPin.ensures.text c.name-in-AtPin-2.ensures.text
          (λ i. Pin (c.in_ok-cell-in-AtPin.ensures i) (c.in_ok-pin-in-AtPin.ensures i)) first.1,
    )
