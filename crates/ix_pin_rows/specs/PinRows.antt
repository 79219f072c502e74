-- The rows that name port bits of an instance of a cell.
use Rattle.std.specs.Prelude.{◌≡◌, ◌<◌, ◌≤◌, ℕ, List, length, slice_get, Some}
use Rattle.ix_rec.specs.declared.device.DeviceRec.{DeviceRec}
use Rattle.ix_rec.specs.declared.netlist.Cell.{Cell}
use Rattle.ix_rec.specs.declared.netlist.NetlistRec.{NetlistRec}
use Rattle.ix_hierarchy.specs.declared.instance.Instance.{Instance}
use Rattle.ix_hierarchy.specs.declared.kind.Kind.{Kind}
use Rattle.ix_hierarchy.specs.declared.row.Row.{Row}
use Rattle.ix_hierarchy.specs.Hierarchy.{Path}
use Rattle.ix_hierarchy.specs.Fits.{NetlistFits}
use Rattle.ix_hierarchy.specs.Walk.{IsLess}
use Rattle.ix_hierarchy.specs.Lists.{AreInstances, AreKinds, IsOuterRow, row_key}
use Rattle.ix_bit_rows.specs.Table.{RowTable, AreRowsIn}

-- a design's declarations, the port bits that its nets name, and its instances, in lists
pub record AreListed (design : NetlistRec) (device : DeviceRec) (kinds : List Kind)
    (outer : RowTable) (all : List Instance) (paths : List Path) (nets : ℕ) : Type 0 where
  pub names : ℕ
  pub fits : NetlistFits names design
  pub are_kinds : AreKinds device design kinds
  pub rows : AreRowsIn design IsOuterRow outer
  pub instances : AreInstances design all paths nets

-- the rows from `start` to `end` are those of an instance of a cell, all of them and rising
pub record ArePinRows (outer : RowTable) (cell : Cell) (instance start end : ℕ) : Type 0 where
  pub some : start ≤ end
  pub to : end ≤ length outer.rows
  pub each : (k : ℕ) (row : Row) → start ≤ k → k < end → slice_get outer.rows k ≡ Some row
      → (row.instance ≡ instance) × IsOuterRow cell row
  pub all : (row : Row) → row.instance ≡ instance → IsOuterRow cell row
      → (k : ℕ) × (start ≤ k) × (k < end) × (slice_get outer.rows k ≡ Some row)
  pub rise : (j k : ℕ) (a b : Row) → start ≤ j → j < k → k < end
      → slice_get outer.rows j ≡ Some a → slice_get outer.rows k ≡ Some b
      → IsLess (row_key a) (row_key b)
