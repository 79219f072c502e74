-- What a list of pins says.
use Rattle.std.specs.Prelude.{ℕ, List, map, unwrap_or}
use Rattle.ix_keys.specs.Keys.{key}
use Rattle.ix_first.specs.First.{value_at}
use Rattle.ix_device.specs.declared.pins.PinList.{PinList}

-- each cell pin of the map with its BEL pin
abbrev pub pins_listed : PinList → List (ℕ × ℕ)
pins_listed p = map (λ e. (
  e.cell_pin,
  unwrap_or (value_at p.bel_pins.now (key 0 p.bel e.bel_pin))
      0,
)) p.pins.now
