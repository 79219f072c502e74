use Rattle.ix_element_numbers.proofs.Numbered.{one_element}
use Rattle.ix_element_numbers.proofs.laws.element_is_one.Goals as goal

pub returns : goal.returns
returns c = record { law = one_element }
