use Rattle.ix_pin_laws.proofs.Counting.{counted}
use Rattle.ix_pin_laws.proofs.law.port_cells_are_counted.Goals as goal

pub returns : goal.returns
returns c = record { law = counted }
