use Rattle.ix_twice.specs.Turns.{NoneTwice}
use Rattle.ix_twice.proofs.first.first_of_cells.Given as goal

abbrev pub invariant-loop-declaration : goal.invariant-loop-declaration
invariant-loop-declaration l = NoneTwice l.names l.rec l.met l.declaration-index
