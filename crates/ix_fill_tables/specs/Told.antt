-- The tables that a design tells, by the names of its cells.
use Rattle.std.specs.Prelude.{ℕ, nat_eq, if◌then◌else◌, Option, Some, None, option_and_then}
use Rattle.std.specs.List.{position}
use Rattle.std.specs.FinMap.{get}
use Rattle.ix_num.specs.Numbers.{NameNumber}
use Rattle.ix_rec.specs.declared.flow.Flat.{Flat}
use Rattle.ix_rec.specs.declared.flow.FlatCell.{FlatCell}
use Rattle.ix_rec.specs.declared.flow.TruthTable.{TruthTable}
use Rattle.ix_table_keys.specs.Places.{ArePlacesByName}
use Rattle.ix_fill_tables.specs.declared.told.ToldTables.{ToldTables}

abbrev pub name_of : FlatCell → NameNumber
name_of cell = cell.name

-- a table, where it has this many inputs
abbrev pub of_inputs : (inputs : ℕ) → TruthTable → Option TruthTable
of_inputs inputs table = if nat_eq table.inputs inputs then Some table else None

-- the table of the first cell of this name, where it has this many inputs
abbrev pub told_table : Flat → NameNumber → (inputs : ℕ) → Option TruthTable
told_table flat name inputs = option_and_then (of_inputs inputs) (option_and_then (get flat.tables)
    (position (λ cell. nat_eq (name_of cell) name) flat.cells))

-- among so many names, the first cell of each
abbrev pub AreTold : Flat → (names : ℕ) → ToldTables → Type 0
AreTold flat names told = ArePlacesByName name_of flat.cells names told.cells
