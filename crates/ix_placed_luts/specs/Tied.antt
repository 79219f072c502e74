-- What holds the lines of a BEL.
use Rattle.std.specs.Prelude.{◌≡◌, ◌<◌, ℕ, List, slice_get, Option, Some, IfSome}
use Rattle.std.specs.Prelude.{option_and_then}
use Rattle.ix_num.specs.Numbers.{NameNumber, SiteNumber, SiteTypeNumber, BelNumber, SiteWireNumber}
use Rattle.ix_num.specs.declared.resource.NetRef.{NetRef}
use Rattle.ix_num.specs.declared.resource.Res.TheVariants.{Wire}
use Rattle.ix_rec.specs.declared.device.DeviceRec.{DeviceRec}
use Rattle.ix_rec.specs.declared.phys.PhysNet.{PhysNet}
use Rattle.ix_rec.specs.declared.phys.NetType.{NetType}
use Rattle.ix_rec.specs.declared.phys.NetType.TheVariants.{Signal, Gnd, Vcc}
use Rattle.ix_device.specs.Lookups.{in_type, bel_pin_in, wire_in}
use Rattle.ix_lut.specs.Places.{LineNumber}
use Rattle.ix_lut.specs.Shapes.{held_by}
use Rattle.ix_lut.specs.Tables.{InputPlace}
use Rattle.ix_lut.specs.declared.shape.Tie.{Tie}
use Rattle.ix_lut.specs.declared.shape.Tie.TheVariants as ties
use Rattle.ix_legal.specs.Holders.{Holds}
use Rattle.ix_legal.specs.LutTables.{IsHeld}

-- no wire of a site has two holders
abbrev pub HaveOneHolder : DeviceRec → List PhysNet → Type 0
HaveOneHolder rec nets = (site : SiteNumber) (wire : SiteWireNumber) (one other : NetRef)
    → Holds rec nets (Wire site wire) one → Holds rec nets (Wire site wire) other → one ≡ other

-- what a net of this type holds its wires at
abbrev pub tie_of_type : NetType → Tie
tie_of_type Signal = ties.Free
tie_of_type Gnd = ties.Gnd
tie_of_type Vcc = ties.Vcc

-- the site wire of a pin of a BEL of a site type
abbrev pub wire_of_input : DeviceRec → SiteTypeNumber → BelNumber → NameNumber
    → Option SiteWireNumber
wire_of_input rec t bel name = option_and_then (λ pin. in_type (wire_in pin) rec t)
    (in_type (bel_pin_in bel name) rec t)

-- a pin of a BEL of a site is held so: as its wire is, where it is on one
abbrev pub IsTied : DeviceRec → List PhysNet → SiteNumber → SiteTypeNumber → BelNumber
    → NameNumber → Tie → Type 0
IsTied rec nets site t bel name tie =
    IfSome (wire_of_input rec t bel name) (λ wire. IsHeld rec nets (Wire site wire) tie)

-- so are the lines of a BEL's first so many inputs, which have these names
pub record AreTied (rec : DeviceRec) (nets : List PhysNet) (site : SiteNumber)
    (t : SiteTypeNumber) (bel : BelNumber) (names : List NameNumber) (lines : List LineNumber)
    (count : ℕ) (ties : List Tie) : Type 0 where
  pub each : (j : InputPlace) (name : NameNumber) (line : LineNumber) → j < count
      → slice_get names j ≡ Some name → slice_get lines j ≡ Some line
      → IsTied rec nets site t bel name (held_by ties line)
