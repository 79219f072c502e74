-- What is told of a physical netlist that is checked against a flat design on a device.
use Rattle.std.specs.Prelude.{◌≡◌, ◌⊎◌, Bool, true, false, List, Contains, Some, IsSome}
use Rattle.ix_message.specs.Shape.{Text}
use Rattle.ix_rec.specs.declared.device.DeviceRec.{DeviceRec}
use Rattle.ix_rec.specs.declared.flow.Flat.{Flat}
use Rattle.ix_rec.specs.declared.phys.CellPlacement.{CellPlacement}
use Rattle.ix_rec.specs.declared.phys.Phys.{Phys}
use Rattle.ix_rec.specs.declared.place.Place.{Place}
use Rattle.ix_rec.specs.declared.place.Rule.{Rule}
use Rattle.ix_legal.specs.declared.level.Level.{Level}
use Rattle.ix_legal.specs.Legal.{Legal, IsFirstBroken}
use Rattle.ix_legal.specs.Sites.{lut_cell_of}
use Rattle.ix_fill_tables.specs.Completed.{HasTables, IsCompleted}
use Rattle.ix_extract.specs.Extracted.{IsExtracted}
use Rattle.ix_differences.specs.Differences.{Agree, IsFirstDifference}
use Rattle.ix_check.specs.declared.verdict.Verdict.{Verdict}
use Rattle.ix_check.specs.declared.verdict.Verdict.TheVariants.{Yes, No}

-- a cell of a LUT type is placed
pub record HasLutCell (rec : DeviceRec) (phys : Phys) : Type 0 where
  pub placement : CellPlacement
  pub placed : Contains phys.placements placement
  pub is_lut : IsSome (lut_cell_of rec placement.ty)

-- whether tables were derived: where a LUT stands, and no table did
abbrev pub IsDerived : List Text → DeviceRec → Phys → Bool → Type 0
IsDerived names rec phys true = HasLutCell rec phys × ¬ HasTables names phys
IsDerived names rec phys false = ¬ HasLutCell rec phys ⊎ HasTables names phys

-- A netlist is accepted: completed it breaks no rule of the level, and the design that it realizes
-- is the flat one.
pub record IsAccepted (level : Level) (names : List Text) (rec : DeviceRec) (phys : Phys)
    (flat : Flat) : Type 0 where
  pub completed : Phys
  pub is_completed : IsCompleted names rec phys flat completed
  pub legal : Legal level names rec completed
  pub extracted : Flat
  pub is_extracted : IsExtracted names rec completed extracted
  pub agree : Agree extracted flat

-- It is refused for the first rule that it breaks, completed.
pub record BreaksRule (level : Level) (names : List Text) (rec : DeviceRec) (phys : Phys)
    (flat : Flat) (rule : Rule) (place : Place) : Type 0 where
  pub completed : Phys
  pub is_completed : IsCompleted names rec phys flat completed
  pub broken : IsFirstBroken level names rec completed rule place

-- It breaks none, and is refused for the first difference of the design that it realizes.
pub record Differs (level : Level) (names : List Text) (rec : DeviceRec) (phys : Phys)
    (flat : Flat) (rule : Rule) (place : Place) : Type 0 where
  pub completed : Phys
  pub is_completed : IsCompleted names rec phys flat completed
  pub legal : Legal level names rec completed
  pub extracted : Flat
  pub is_extracted : IsExtracted names rec completed extracted
  pub difference : IsFirstDifference names extracted flat rule place

-- what is told of it
abbrev pub IsVerdict : Level → List Text → DeviceRec → Phys → Flat → Verdict → Type 0
IsVerdict level names rec phys flat (Yes derived) =
    IsAccepted level names rec phys flat × IsDerived names rec phys derived
IsVerdict level names rec phys flat (No rule place) =
    BreaksRule level names rec phys flat rule place ⊎ Differs level names rec phys flat rule place
