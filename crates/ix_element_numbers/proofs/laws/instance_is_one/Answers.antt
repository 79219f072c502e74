use Rattle.ix_element_numbers.proofs.Numbered.{one_instance}
use Rattle.ix_element_numbers.proofs.laws.instance_is_one.Goals as goal

pub returns : goal.returns
returns c = record { law = one_instance }
