use Rattle.ix_lut_places.specs.Filled.{HaveElements}
use Rattle.ix_lut_places.proofs.filling.element_rows.Given as goal

abbrev pub invariant-loop-entry : goal.invariant-loop-entry
invariant-loop-entry l = HaveElements l.rec l.entry l.rows.items
