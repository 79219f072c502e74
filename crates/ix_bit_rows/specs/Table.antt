-- Rows of port bits by cell, and what is found in them.
use Rattle.std.specs.Prelude.{◌≡◌, ◌<◌, ◌≤◌, ℕ, List, length, slice_get, slice_index, Some}
use Rattle.ix_rec.specs.declared.netlist.Cell.{Cell}
use Rattle.ix_rec.specs.declared.netlist.NetlistRec.{NetlistRec}
use Rattle.ix_hierarchy.specs.declared.row.Row.{Row}
use Rattle.ix_hierarchy.specs.Walk.{IsLess}
use Rattle.ix_hierarchy.specs.Lists.{AreRowsOf, row_key}

-- the rows of all cells, and for each cell of the netlist where its rows begin and end
pub record RowTable : Type 0 where
  pub rows : List Row
  pub starts : List ℕ
  pub ends : List ℕ

-- the rows that cells have by this test
abbrev pub AreRowsIn : NetlistRec → (Cell → Row → Type 0) → RowTable → Type 0
AreRowsIn design Is table = AreRowsOf design Is table.rows table.starts table.ends

abbrev pub start_in : RowTable → (cell : ℕ) → ℕ
start_in table cell = slice_index table.starts cell

abbrev pub end_in : RowTable → (cell : ℕ) → ℕ
end_in table cell = slice_index table.ends cell

-- Of the rows from `start` to `end`, those before a place pass, and those from it on do not.
pub record IsCut (Passes Fails : Row → Type 0) (rows : List Row) (start end place : ℕ) : Type 0
  where
    pub from : start ≤ place
    pub to : place ≤ end
    pub before : (k : ℕ) (row : Row) → start ≤ k → k < place → slice_get rows k ≡ Some row
        → Passes row
    pub behind : (k : ℕ) (row : Row) → place ≤ k → k < end → slice_get rows k ≡ Some row
        → Fails row

-- the place before a cell's rows of an instance
abbrev pub IsStartOf : RowTable → (cell instance place : ℕ) → Type 0
IsStartOf table cell instance place = IsCut (λ row. row.instance < instance)
    (λ row. instance ≤ row.instance) table.rows (start_in table cell) (end_in table cell) place

-- the place behind them, where they begin at `start`
abbrev pub IsEndOf : RowTable → (cell instance start place : ℕ) → Type 0
IsEndOf table cell instance start place = IsCut (λ row. row.instance ≡ instance)
    (λ row. instance < row.instance) table.rows start (end_in table cell) place

-- all rows from `start` to `end` are of one cell and one instance
pub record AreOfInstance (table : RowTable) (start end : ℕ) : Type 0 where
  pub cell : ℕ
  pub is_cell : cell < length table.starts
  pub instance : ℕ
  pub from : start_in table cell ≤ start
  pub some : start ≤ end
  pub to : end ≤ end_in table cell
  pub of_it : (k : ℕ) (row : Row) → start ≤ k → k < end → slice_get table.rows k ≡ Some row
      → row.instance ≡ instance

-- a row of a cell
pub record IsRowOf (table : RowTable) (cell : ℕ) (row : Row) : Type 0 where
  pub place : ℕ
  pub from : start_in table cell ≤ place
  pub to : place < end_in table cell
  pub row_is : slice_get table.rows place ≡ Some row

-- the row of a net that names a bit of the cell itself
abbrev pub own_row : (port index net : ℕ) → Row
own_row port index net = record { instance = 0; port = port; index = index; net = net }

-- the first net of a cell that names a bit of the cell itself
pub record IsNetOf (table : RowTable) (cell port index net : ℕ) : Type 0 where
  pub names : IsRowOf table cell (own_row port index net)
  pub first : (other : ℕ) → IsRowOf table cell (own_row port index other) → net ≤ other

-- no net names it
abbrev pub IsOnNone : RowTable → (cell port index : ℕ) → Type 0
IsOnNone table cell port index =
    (net : ℕ) → ¬ IsRowOf table cell (own_row port index net)

-- what holds of each table: the rows of each cell are there, each once and rising
pub record IsTable (rows : List Row) (starts ends : List ℕ) : Type 0 where
  pub many : length starts ≡ length ends
  pub ordered : (cell : ℕ) → cell < length starts
      → (slice_index starts cell ≤ slice_index ends cell)
      × (slice_index ends cell ≤ length rows)
  pub rise : (cell j k : ℕ) (a b : Row) → cell < length starts → slice_index starts cell ≤ j
      → j < k → k < slice_index ends cell → slice_get rows j ≡ Some a → slice_get rows k ≡ Some b
      → IsLess (row_key a) (row_key b)
