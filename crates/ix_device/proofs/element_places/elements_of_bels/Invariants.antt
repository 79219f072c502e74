use Rattle.std.proofs.Common.{length, option_map}
use Rattle.ix_device.specs.Places.{place_told, place_of_bel}
use Rattle.ix_device.proofs.FilledTables.{IsFilled}
use Rattle.ix_device.proofs.element_places.elements_of_bels.Given as goal

abbrev pub invariant-loop-bel : goal.invariant-loop-bel
invariant-loop-bel l = IsFilled (length l.ty.bels) (λ bel. option_map place_told (place_of_bel l.places l.ty bel)) l.bel l.elements
