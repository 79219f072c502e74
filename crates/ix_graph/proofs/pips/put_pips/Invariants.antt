use Rattle.std.proofs.Common.{◌≡◌, nat_eq, position, take}
use Rattle.ix_keys.specs.declared.key.Key.{Key}
use Rattle.ix_first.specs.First.{value_at, or_found}
use Rattle.ix_graph.specs.Tables.{joins, joins_back}
use Rattle.ix_graph.proofs.pips.put_pips.Given as goal

abbrev pub invariant-loop-i : goal.invariant-loop-i
invariant-loop-i l = record {
  forward : (q : Key) → value_at l.forward q ≡ or_found (value_at l.initial.forward q) (nat_eq l.ty q.owner) (position (joins q.part q.name) (take l.i l.pips));
  backward : (q : Key) → value_at l.backward q ≡ or_found (value_at l.initial.backward q) (nat_eq l.ty q.owner) (position (joins_back q.part q.name) (take l.i l.pips));
}
