use Rattle.ix_ends.proofs.There.{nodes_there}
use Rattle.ix_ends.proofs.laws.graph_has_nodes.Goals as goal

pub returns : goal.returns
returns c = record { law = nodes_there }
