use Rattle.ix_element_numbers.specs.Numbers.{AreBases}
use Rattle.ix_element_numbers.proofs.bases.bases_of.Given as goal

abbrev pub invariant-loop-i : goal.invariant-loop-i
invariant-loop-i l = AreBases l.device l.instances l.i l.bases.items l.count
