use Rattle.ix_pin_laws.proofs.Alike.{apart}
use Rattle.ix_pin_laws.proofs.law.pins_are_apart.Goals as goal

pub returns : goal.returns
returns c = record { law = apart }
