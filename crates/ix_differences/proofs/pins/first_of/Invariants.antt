use Rattle.ix_differences.specs.Earliest.{AgreesAt}
use Rattle.ix_differences.proofs.Turns.{PinsFrom}
use Rattle.ix_differences.proofs.pins.first_of.Given as goal

abbrev pub invariant-loop-cell : goal.invariant-loop-cell
invariant-loop-cell l = PinsFrom l.names (AgreesAt l.own.flat.now l.other.flat.now)
    l.own.flat.now l.cell-iterator l.first
