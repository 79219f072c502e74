use Rattle.std.proofs.Common.{◌≡◌, ℕ, take}
use Rattle.std.specs.List.{position}
use Rattle.ix_keys.specs.Keys.{name_key}
use Rattle.ix_first.specs.First.{value_at}
use Rattle.ix_device.specs.Elements.{is_lut_cell}
use Rattle.ix_lut_tables.proofs.types.lut_types.Given as goal

abbrev pub invariant-loop-i : goal.invariant-loop-i
invariant-loop-i l = (ty : ℕ) → value_at l.table (name_key ty)
    ≡ position (is_lut_cell ty) (take l.i l.device.lut_definitions.lut_cells)
