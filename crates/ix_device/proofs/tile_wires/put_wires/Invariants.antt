use Rattle.std.proofs.Common.{◌≡◌, nat_eq, position, take}
use Rattle.ix_keys.specs.declared.key.Key.{Key}
use Rattle.ix_first.specs.First.{value_at, or_found}
use Rattle.ix_device.specs.TileWires.{of_type}
use Rattle.ix_device.proofs.tile_wires.put_wires.Given as goal

abbrev pub invariant-loop-i : goal.invariant-loop-i
invariant-loop-i l = (q : Key) → value_at l.table q ≡ or_found (value_at l.initial.table q) (of_type l.owner q) (position (nat_eq q.name) (take l.i l.wires))
