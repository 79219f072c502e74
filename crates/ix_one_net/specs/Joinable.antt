-- What is known of a design when its nets are joined.
use Rattle.std.specs.Prelude.{◌≡◌, ◌<◌, ◌^◌, ℕ, List, length, Option, Some}
use Rattle.ix_rec.specs.declared.device.DeviceRec.{DeviceRec}
use Rattle.ix_rec.specs.declared.netlist.Cell.{Cell}
use Rattle.ix_rec.specs.declared.netlist.NetlistRec.{NetlistRec}
use Rattle.ix_hierarchy.specs.declared.instance.Instance.{Instance}
use Rattle.ix_hierarchy.specs.declared.kind.Kind.{Kind}
use Rattle.ix_hierarchy.specs.Hierarchy.{Path, inside_at}
use Rattle.ix_hierarchy.specs.Broken.{IsOnTwo}
use Rattle.ix_bit_rows.specs.Table.{RowTable}
use Rattle.ix_pin_rows.specs.PinRows.{AreListed}
use Rattle.ix_inner_nets.specs.Inner.{AreInner}

-- in the cells of instances no net names a bit that an earlier one names
abbrev pub IsOnOne : NetlistRec → Type 0
IsOnOne design = (path : Path) (cell : Cell) (net : ℕ) → inside_at design path ≡ Some cell
    → IsOnTwo cell net → ⊥

-- its declarations, rows and instances in lists, the nets inside for the rows, and that each bit is
-- on one net at most
pub record AreJoinable (design : NetlistRec) (device : DeviceRec) (kinds : List Kind)
    (outer : RowTable) (inner : List (Option ℕ)) (all : List Instance) (paths : List Path)
    (nets : ℕ) : Type 0 where
  pub listed : AreListed design device kinds outer all paths nets
  pub inner_nets : AreInner design outer.rows inner
  pub one : IsOnOne design
  pub few : length all < 2 ^ 32
