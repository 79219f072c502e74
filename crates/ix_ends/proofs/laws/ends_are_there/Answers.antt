use Rattle.ix_ends.proofs.There.{ends_there}
use Rattle.ix_ends.proofs.laws.ends_are_there.Goals as goal

pub returns : goal.returns
returns c = record { law = ends_there }
