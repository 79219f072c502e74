-- The numbers of cells by name.
use Rattle.std.specs.Prelude.{◌≡◌, ◌<◌, ℕ, List, length, map, Some}
use Rattle.ix_first.specs.First.{value_of}
use Rattle.ix_first.specs.declared.by_id.FirstById.{FirstById}
use Rattle.ix_flat.specs.Range.{IsNamed, NumbersFit}
use Rattle.ix_flat.specs.Whole.{AllDiffer}
use Rattle.ix_message.specs.Shape.{Text}
use Rattle.ix_num.specs.Numbers.{NameNumber}
use Rattle.ix_rec.specs.declared.flow.Flat.{Flat}
use Rattle.ix_differences.specs.Differences.{cell_named}

-- the table tells the number of the cell of a name
abbrev pub KnowsCell : Flat → FirstById ℕ → NameNumber → Type 0
KnowsCell flat numbers name = value_of numbers name ≡ Some (cell_named flat name)

-- a design whose numbers are in range and whose cells differ by name, with their numbers by name
pub record IsReady (names : List Text) (flat : Flat) (numbers : FirstById ℕ) : Type 0 where
  pub fits : NumbersFit flat
  pub named : IsNamed (length names) flat
  pub differ : AllDiffer (map (λ cell. cell.name) flat.cells)
  pub knows : (name : NameNumber) → name < length names → KnowsCell flat numbers name
