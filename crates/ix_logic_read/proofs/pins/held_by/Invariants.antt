use Rattle.ix_frame.specs.Views.{elements_of}
use Rattle.ix_logic_read.specs.Pins.{AreHeldUpTo}
use Rattle.ix_logic_read.proofs.pins.held_by.Given as goal

abbrev pub invariant-loop-d : goal.invariant-loop-d
invariant-loop-d l = record {
  held : AreHeldUpTo l.d l.held.items (elements_of l.decls);
}
