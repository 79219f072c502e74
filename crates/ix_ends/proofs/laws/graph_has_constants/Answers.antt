use Rattle.ix_ends.proofs.There.{constants_there}
use Rattle.ix_ends.proofs.laws.graph_has_constants.Goals as goal

pub returns : goal.returns
returns c = record { law = constants_there }
