use Rattle.std.proofs.Common.{◌≡◌, take}
use Rattle.ix_keys.specs.declared.key.Key.{Key}
use Rattle.ix_first.specs.First.{value_at}
use Rattle.ix_device.specs.TileWires.{wire_at}
use Rattle.ix_device.proofs.tile_wires.tile_wires.Given as goal

abbrev pub invariant-loop-i : goal.invariant-loop-i
invariant-loop-i l = (q : Key) → value_at l.table q ≡ wire_at (take l.i l.types) q
