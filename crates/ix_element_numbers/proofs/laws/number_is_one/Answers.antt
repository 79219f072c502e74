use Rattle.ix_element_numbers.proofs.Numbered.{one_number}
use Rattle.ix_element_numbers.proofs.laws.number_is_one.Goals as goal

pub returns : goal.returns
returns c = record { law = one_number }
