use Rattle.ix_legal.proofs.Weaker.{unshared_placed, routed_placed}
use Rattle.ix_legal.proofs.laws.routed_is_placed.Goals as goal

pub returns : goal.returns
returns c = record {
  law = λ names rec phys legal. record {
    sound = legal.sound;
    l1 = legal.l1;
    l2 = legal.l2;
    l3 = legal.l3;
    l4 = legal.l4;
    l5 = legal.l5;
    l6 = legal.l6;
    l7 = λ spot. unshared_placed rec phys spot (legal.l7 spot);
    l8 = legal.l8;
    l9 = legal.l9;
    l10 = routed_placed phys;
  };
}
