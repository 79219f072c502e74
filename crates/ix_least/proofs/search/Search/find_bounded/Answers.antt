use Rattle.ix_least.proofs.Reaching.{key_rises}
use Rattle.ix_least.proofs.search.Search.find_bounded.Goals as goal

pub reach-requires-clause-rising : goal.reach-requires-clause-rising
reach-requires-clause-rising g c = key_rises _ _ c.args.target c.requires.bounds
