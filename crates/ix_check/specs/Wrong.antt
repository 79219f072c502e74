-- What is told of a netlist once it is completed.
use Rattle.std.specs.Prelude.{◌⊎◌, List, Option, Some, None}
use Rattle.ix_message.specs.Shape.{Text}
use Rattle.ix_rec.specs.declared.device.DeviceRec.{DeviceRec}
use Rattle.ix_rec.specs.declared.flow.Flat.{Flat}
use Rattle.ix_rec.specs.declared.phys.Phys.{Phys}
use Rattle.ix_rec.specs.declared.place.Place.{Place}
use Rattle.ix_rec.specs.declared.place.Rule.{Rule}
use Rattle.ix_legal.specs.declared.level.Level.{Level}
use Rattle.ix_legal.specs.Legal.{Legal, IsFirstBroken}
use Rattle.ix_extract.specs.Extracted.{IsExtracted}
use Rattle.ix_differences.specs.Differences.{IsAnswer}

-- the design that it realizes, and how that differs from the flat one, if it does
pub record IsCompared (names : List Text) (rec : DeviceRec) (phys : Phys) (flat : Flat)
    (answer : Option (Rule × Place)) : Type 0 where
  pub extracted : Flat
  pub is_extracted : IsExtracted names rec phys extracted
  pub compared : IsAnswer names extracted flat answer

-- it is legal, and compared
pub record IsLegalAndCompared (level : Level) (names : List Text) (rec : DeviceRec) (phys : Phys)
    (flat : Flat) (answer : Option (Rule × Place)) : Type 0 where
  pub legal : Legal level names rec phys
  pub compared : IsCompared names rec phys flat answer

-- what is wrong with it, if something is
abbrev pub TellsWrong : Level → List Text → DeviceRec → Phys → Flat → Option (Rule × Place)
    → Type 0
TellsWrong level names rec phys flat None = IsLegalAndCompared level names rec phys flat None
TellsWrong level names rec phys flat (Some answer) =
    IsFirstBroken level names rec phys answer.0 answer.1
    ⊎ IsLegalAndCompared level names rec phys flat (Some answer)
