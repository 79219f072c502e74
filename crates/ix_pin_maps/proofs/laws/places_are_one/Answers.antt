use Rattle.ix_pin_maps.proofs.InputLemmas.{places_are_one}
use Rattle.ix_pin_maps.proofs.laws.places_are_one.Goals as goal

pub returns : goal.returns
returns c = record { law = λ lut bel placement differ. places_are_one lut bel placement differ }
