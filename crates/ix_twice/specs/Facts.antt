-- What is known of the rows of one cell.
use Rattle.std.specs.Prelude.{◌≤◌, ℕ, List, length}
use Rattle.std.specs.List.{slice_range}
use Rattle.ix_message.specs.Shape.{Text}
use Rattle.ix_rec.specs.declared.netlist.Cell.{Cell}
use Rattle.ix_rec.specs.declared.netlist.NetlistRec.{NetlistRec}
use Rattle.ix_hierarchy.specs.declared.row.Row.{Row}
use Rattle.ix_hierarchy.specs.Lists.{AreAllRows, AreWritten, IsOwnRow, IsOuterRow}
use Rattle.ix_bit_rows.specs.Table.{RowTable, start_in, end_in}
use Rattle.ix_strings.specs.Names.{AllDiffer}

abbrev pub rows_in : RowTable → (cell : ℕ) → List Row
rows_in table cell = slice_range table.rows (start_in table cell) (end_in table cell)

-- these are the rows of a cell and their written names
pub record AreRowsOfCell (names : List Text) (design : NetlistRec) (its : Cell)
    (own outer : RowTable) (written : List ℕ) (cell : ℕ) : Type 0 where
  pub differ : AllDiffer names
  pub own_high : end_in own cell ≤ length own.rows
  pub own_rows : AreAllRows (IsOwnRow its) (rows_in own cell)
  pub outer_high : end_in outer cell ≤ length outer.rows
  pub outer_rows : AreAllRows (IsOuterRow its) (rows_in outer cell)
  pub written_is : AreWritten names design outer.rows written
