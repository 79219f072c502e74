-- Rows that are being put together, cell by cell.
use Rattle.std.specs.Prelude.{◌≡◌, ◌<◌, ◌≤◌, ℕ, Bool, List, length, slice_get, slice_index, Some}
use Rattle.std.specs.List.{slice_range}
use Rattle.ix_rec.specs.declared.netlist.Cell.{Cell}
use Rattle.ix_rec.specs.declared.netlist.NetlistRec.{NetlistRec}
use Rattle.ix_hierarchy.specs.declared.row.Row.{Row}
use Rattle.ix_hierarchy.specs.Lists.{AreAllRows, first_cell}
use Rattle.ix_bit_rows.specs.Table.{IsTable}
use Rattle.ix_port_bits.specs.Listed.{IsRow}

-- a row of the cell of one of the first so many declarations
pub record IsOfTurn (design : NetlistRec) (met : List ℕ) (turns : ℕ) (starts ends : List ℕ) (k : ℕ)
    : Type 0 where
  pub turn : ℕ
  pub passed : turn < turns
  pub declaration : ℕ
  pub met_is : slice_get met turn ≡ Some declaration
  pub place : ℕ
  pub cell_is : first_cell design declaration ≡ Some place
  pub within : place < length design.cell_list
  pub from : slice_index starts place ≤ k
  pub to : k < slice_index ends place

-- the rows of the cells of the first so many declarations
pub record AreFilled (own : Bool) (design : NetlistRec) (met : List ℕ) (turns : ℕ) (rows : List Row)
    (starts ends : List ℕ) : Type 0 where
  pub starts_many : length starts ≡ length design.cell_list
  pub ends_many : length ends ≡ length design.cell_list
  pub table : IsTable rows starts ends
  pub each : (turn declaration place : ℕ) (cell : Cell) → turn < turns
      → slice_get met turn ≡ Some declaration → first_cell design declaration ≡ Some place
      → slice_get design.cell_list place ≡ Some cell
      → AreAllRows (IsRow own cell)
      (slice_range rows (slice_index starts place) (slice_index ends place))
  pub some_cell : (k : ℕ) → k < length rows → IsOfTurn design met turns starts ends k
