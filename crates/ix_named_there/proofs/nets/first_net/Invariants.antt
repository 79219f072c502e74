use Rattle.std.proofs.Common.{take}
use Rattle.ix_legal.specs.Names.{NetIsNamed}
use Rattle.ix_walk.specs.Firsts.{AllFit}
use Rattle.ix_named_there.specs.Met.{AreMet}
use Rattle.ix_named_there.proofs.nets.first_net.Given as goal

abbrev pub invariant-loop-n : goal.invariant-loop-n
invariant-loop-n l = record {
  fit : AllFit (NetIsNamed l.phys) l.phys.nets l.n;
  are_met : AreMet (take l.n l.phys.nets) l.count l.met;
}
