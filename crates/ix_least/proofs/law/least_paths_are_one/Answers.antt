use Rattle.ix_least.proofs.Uniqueness.{least_paths_are_one}
use Rattle.ix_least.proofs.law.least_paths_are_one.Goals as goal

pub returns : goal.returns
returns c = least_paths_are_one
