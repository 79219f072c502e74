use Rattle.ix_legal.proofs.Holding.{one_holder, one_net}
use Rattle.ix_legal.proofs.laws.holders_are_one.Goals as goal

pub returns : goal.returns
returns c = record {
  law = λ level rec phys unshared r counts. record {
    one_holder = one_holder level rec phys unshared r counts;
    one_net = one_net level rec phys unshared r counts;
  };
}
