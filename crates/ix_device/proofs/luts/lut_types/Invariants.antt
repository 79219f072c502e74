use Rattle.std.proofs.Common.{◌≡◌, ℕ, take, length, find, option_map}
use Rattle.ix_keys.specs.Keys.{name_key}
use Rattle.ix_first.specs.First.{value_at}
use Rattle.ix_device.specs.Elements.{is_lut_cell}
use Rattle.ix_device.proofs.luts.lut_types.Given as goal

abbrev pub invariant-loop-i : goal.invariant-loop-i
invariant-loop-i l = (cell : ℕ) → value_at l.table (name_key cell) ≡ option_map (λ c. length c.input_pins) (find (is_lut_cell cell) (take l.i l.rec.lut_definitions.lut_cells))
