use Rattle.ix_read_laws.proofs.MoreNames.{no_fewer}
use Rattle.ix_read_laws.proofs.laws.names_are_no_fewer.Goals as goal

pub returns : goal.returns
returns c = λ old new keeps. no_fewer old new keeps
