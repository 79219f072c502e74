use Rattle.ix_pin_laws.proofs.Small.{small}
use Rattle.ix_pin_laws.proofs.law.designs_are_small.Goals as goal

pub returns : goal.returns
returns c = record { law = small }
