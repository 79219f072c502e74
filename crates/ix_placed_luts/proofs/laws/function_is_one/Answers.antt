use Rattle.ix_placed_luts.proofs.Functions.{function_is_one}
use Rattle.ix_placed_luts.proofs.laws.function_is_one.Goals as goal

pub returns : goal.returns
returns c = record { law = function_is_one c.places_are_one.ensures.law }
