use Rattle.ix_occupy.proofs.Replaying.{lawful_once}
use Rattle.ix_occupy.proofs.laws.holders_differ.Goals as goal

pub returns : goal.returns
returns c = lawful_once
