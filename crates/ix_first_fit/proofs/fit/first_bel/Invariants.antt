use Rattle.ix_first_fit.specs.Taken.{NoneWithin}
use Rattle.ix_first_fit.proofs.fit.first_bel.Given as goal

abbrev pub invariant-loop-bel : goal.invariant-loop-bel
invariant-loop-bel l = NoneWithin l.device l.taken l.ty l.site l.first l.bel
