use Rattle.ix_legal.proofs.Told.{legal_is_none}
use Rattle.ix_legal.proofs.laws.broken_is_not_legal.Goals as goal

pub returns : goal.returns
returns c = record { law = legal_is_none }
