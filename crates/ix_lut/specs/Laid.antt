-- Cells on their BELs.
use Rattle.std.specs.Prelude.{◌≡◌, ℕ, ◌<◌, List, [], take, slice_index, slice_index_or}
use Rattle.ix_lut.specs.Places.{LineNumber}
use Rattle.ix_lut.specs.Shapes.{bel_at, input_lines}
use Rattle.ix_lut.specs.Items.{use_at, item_at, number_in}
use Rattle.ix_lut.specs.Plans.{places_on}
use Rattle.ix_lut.specs.Forcing.{lut_at, IsReady}
use Rattle.ix_lut.specs.declared.shape.BelShape.{BelShape}
use Rattle.ix_lut.specs.declared.shape.ElementShape.{ElementShape}
use Rattle.ix_lut.specs.declared.uses.LutUse.{LutUse}
use Rattle.ix_lut.specs.declared.uses.Item.{Item}
use Rattle.ix_lut.specs.declared.forcing.Lut.{Lut}

-- the cell's inputs are on these lines, and it is ready on its BEL
pub record IsLaid (bel : BelShape) (cell : LutUse) (items : List Item)
    (lines row : List LineNumber) (lut : Lut) : Type 0 where
  pub chosen : (i : ℕ) → i < cell.table.inputs →
      slice_index row i ≡ slice_index lines (number_in items (item_at cell.nets i))
  pub ready : IsReady lut
  pub bel_is : lut.bel ≡ bel
  pub table : lut.table ≡ cell.table.bits
  pub places : take lut.inputs lut.places ≡ places_on (input_lines bel) row cell.table.inputs

-- the first cells are
abbrev pub AreLaid : ElementShape → List LutUse → List Item → List LineNumber → ℕ →
    List (List LineNumber) → List Lut → Type 0
AreLaid shape uses items lines count choice luts = (u : ℕ) → u < count →
    IsLaid (bel_at shape (use_at uses u).bel) (use_at uses u) items lines
    (slice_index_or choice u []) (lut_at luts u)
