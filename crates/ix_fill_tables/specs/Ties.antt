-- What holds the lines of the inputs that a LUT doesn't use.
use Rattle.std.specs.Prelude.{◌≡◌, ◌<◌, ℕ, List, Contains, length, slice_get, Option, Some, None}
use Rattle.ix_num.specs.Numbers.{NameNumber, SiteNumber, SiteTypeNumber, BelNumber, SiteWireNumber}
use Rattle.ix_num.specs.declared.resource.Res.TheVariants.{Wire}
use Rattle.ix_rec.specs.declared.device.DeviceRec.{DeviceRec}
use Rattle.ix_rec.specs.declared.phys.PhysNet.{PhysNet}
use Rattle.ix_lut.specs.Places.{LineNumber}
use Rattle.ix_lut.specs.Shapes.{held_by}
use Rattle.ix_lut.specs.Tables.{InputPlace}
use Rattle.ix_lut.specs.declared.shape.Tie.{Tie}
use Rattle.ix_legal.specs.LutTables.{IsHeld}
use Rattle.ix_placed_luts.specs.Tied.{IsTied, wire_of_input}

-- a pin of a BEL of a site is on a wire that both constants hold
pub record IsHeldTwice (rec : DeviceRec) (nets : List PhysNet) (site : SiteNumber)
    (t : SiteTypeNumber) (bel : BelNumber) (name : NameNumber) : Type 0 where
  pub wire : SiteWireNumber
  pub wire_is : wire_of_input rec t bel name ≡ Some wire
  pub twice : (tie : Tie) → ¬ IsHeld rec nets (Wire site wire) tie

-- what holds a pin; none where both constants do
abbrev pub TellsPin : DeviceRec → List PhysNet → SiteNumber → SiteTypeNumber → BelNumber
    → NameNumber → Option Tie → Type 0
TellsPin rec nets site t bel name (Some tie) = IsTied rec nets site t bel name tie
TellsPin rec nets site t bel name None = IsHeldTwice rec nets site t bel name

-- The lines of a BEL's first so many inputs are held so, but for those at used places. The inputs
-- have these names.
pub record AreTiedBut (rec : DeviceRec) (nets : List PhysNet) (site : SiteNumber)
    (t : SiteTypeNumber) (bel : BelNumber) (names : List NameNumber) (lines : List LineNumber)
    (used : List InputPlace) (count : ℕ) (ties : List Tie) : Type 0 where
  pub each : (j : InputPlace) (name : NameNumber) (line : LineNumber) → j < count
      → ¬ Contains used j → slice_get names j ≡ Some name → slice_get lines j ≡ Some line
      → IsTied rec nets site t bel name (held_by ties line)

-- an input that isn't used is held by both constants
pub record HasHeldTwice (rec : DeviceRec) (nets : List PhysNet) (site : SiteNumber)
    (t : SiteTypeNumber) (bel : BelNumber) (names : List NameNumber) (used : List InputPlace)
    : Type 0 where
  pub input : InputPlace
  pub unused : ¬ Contains used input
  pub name : NameNumber
  pub name_is : slice_get names input ≡ Some name
  pub twice : IsHeldTwice rec nets site t bel name

-- what holds the lines; none where both constants hold one of them
abbrev pub TellsTies : DeviceRec → List PhysNet → SiteNumber → SiteTypeNumber → BelNumber
    → (names : List NameNumber) → (lines : List LineNumber) → (used : List InputPlace)
    → Option (List Tie) → Type 0
TellsTies rec nets site t bel names lines used (Some ties) =
    AreTiedBut rec nets site t bel names lines used (length names) ties
TellsTies rec nets site t bel names lines used None = HasHeldTwice rec nets site t bel names used
