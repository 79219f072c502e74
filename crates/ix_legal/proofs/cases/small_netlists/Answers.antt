use Rattle.ix_legal.proofs.Chains.{routed_is_legal, placed_is_legal, stub_is_first}
use Rattle.ix_legal.proofs.cases.small_netlists.Goals as goal

pub returns : goal.returns
returns c = record { routed = routed_is_legal; placed = placed_is_legal; stub = stub_is_first }
