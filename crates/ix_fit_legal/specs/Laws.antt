-- What first fit gives is a legal routed netlist.
use Rattle.std.specs.Prelude.{◌≡◌, ℕ, List, map, slice_get, Some, None}
use Rattle.ix_message.specs.Shape.{Text}
use Rattle.ix_strings.specs.Names as texts
use Rattle.ix_phys_write.specs.Record.{IsPhysNamed}
use Rattle.ix_rec.specs.declared.device.DeviceRec.{DeviceRec}
use Rattle.ix_rec.specs.declared.phys.Phys.{Phys}
use Rattle.ix_rec.specs.declared.flow.FlatCell.{FlatCell}
use Rattle.ix_device_rules.specs.Rules.{first_broken}
use Rattle.ix_flat.specs.Whole.{AllDiffer, lut_of_type}
use Rattle.ix_first_fit.specs.Answers.{IsFitted}
use Rattle.ix_legal.specs.declared.level.Level.TheVariants.{Routed}
use Rattle.ix_legal.specs.Legal.{Legal, IsShort}

-- Cells without nets on a valid device: there aren't too many, no two have one name, and none is a
-- LUT, since the inputs of a LUT are on nets.
pub record ArePlain (rec : DeviceRec) (cells : List FlatCell) : Type 0 where
  pub valid : first_broken rec ≡ None
  pub few : IsShort cells
  pub names_differ : AllDiffer (map (λ cell. cell.name) cells)
  pub no_lut : (k : ℕ) (cell : FlatCell) → slice_get cells k ≡ Some cell
      → lut_of_type rec cell.ty ≡ None

abbrev pub FitsAreLegal : Type 0
FitsAreLegal = (names : List Text) (rec : DeviceRec) (cells : List FlatCell) (phys : Phys)
    → ArePlain rec cells → texts.AllDiffer names → IsPhysNamed names phys → IsFitted rec cells phys
    → Legal Routed names rec phys
