-- How much a tile holds.
use Rattle.std.specs.Prelude.{◌-◌, ◌^◌, min, length}
use Rattle.ix_rec.specs.declared.device.TileType.{TileType}
use Rattle.ix_device_rules.specs.declared.size.Size.{Size}
use Rattle.ix_device_rules.specs.Rules.{directed_pips}

abbrev pub size_of : TileType → Size
size_of t = record { wires = length t.wires; pips = min (directed_pips t) (2 ^ 64 - 1) }

abbrev pub no_size : Size
no_size = record { wires = 0; pips = 0 }
