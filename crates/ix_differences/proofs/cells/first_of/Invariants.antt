use Rattle.ix_differences.specs.Earliest.{AgreesOn, IsEarliest, IsName, name_order}
use Rattle.ix_differences.proofs.Keyed.{IsNameBelow}
use Rattle.ix_differences.proofs.cells.first_of.Given as goal

abbrev pub invariant-loop-i : goal.invariant-loop-i
invariant-loop-i l = IsEarliest (name_order l.names) (IsName l.names)
    (AgreesOn l.asked l.a.flat.now l.b.flat.now) (IsNameBelow l.cells l.i) l.first
