use Rattle.ix_instance_lists.proofs.Numbered.{numbered}
use Rattle.ix_instance_lists.proofs.laws.numbers_are_order.Goals as goal

pub returns : goal.returns
returns c = λ design all paths nets A. numbered design all paths nets A
