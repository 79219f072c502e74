-- Which constants hold the wires of sites.
use Rattle.std.specs.Prelude.{◌≡◌, ◌⊎◌, ◌<◌, ◌↔◌, ℕ, List, slice_get, Bool, true, false}
use Rattle.std.specs.Prelude.{Option, Some, None}
use Rattle.std.specs.FinMap.{FinMap, get}
use Rattle.ix_num.specs.Numbers.{SiteNumber, SiteWireNumber}
use Rattle.ix_num.specs.declared.resource.Constant.{Constant}
use Rattle.ix_num.specs.declared.resource.Constant.TheVariants as constants
use Rattle.ix_num.specs.declared.resource.Res.{Res}
use Rattle.ix_num.specs.declared.resource.Res.TheVariants.{Wire}
use Rattle.ix_rec.specs.declared.device.DeviceRec.{DeviceRec}
use Rattle.ix_rec.specs.declared.forest.Branch.{Branch}
use Rattle.ix_rec.specs.declared.phys.PhysNet.{PhysNet}
use Rattle.ix_rec.specs.declared.phys.Segment.{Segment}
use Rattle.ix_rec.specs.Maps.{pin_order}
use Rattle.ix_graph.specs.Ends.{ends}
use Rattle.ix_lut.specs.declared.shape.Tie.{Tie}
use Rattle.ix_lut.specs.declared.shape.Tie.TheVariants as ties
use Rattle.ix_legal.specs.Segments.{NetNumber}
use Rattle.ix_legal.specs.Holders.{HasEnd, Holds, constant_of_net, net_of_constant}
use Rattle.ix_legal.specs.LutTables.{IsHeld}
use Rattle.ix_fill_tables.specs.declared.constants.Holding.{Holding}
use Rattle.ix_fill_tables.specs.declared.constants.Holding.TheVariants as holdings

-- by site and wire
abbrev pub Holdings : Type 0
Holdings = FinMap pin_order Holding

-- a constant alone
abbrev pub alone : Constant → Holding
alone constants.Gnd = holdings.Gnd
alone constants.Vcc = holdings.Vcc

-- with a constant besides
abbrev pub with_constant : Holding → Constant → Holding
with_constant holdings.Gnd constants.Gnd = holdings.Gnd
with_constant holdings.Gnd constants.Vcc = holdings.Both
with_constant holdings.Vcc constants.Gnd = holdings.Both
with_constant holdings.Vcc constants.Vcc = holdings.Vcc
with_constant holdings.Both constant = holdings.Both

abbrev pub held_besides : Option Holding → Constant → Holding
held_besides None constant = alone constant
held_besides (Some holding) constant = with_constant holding constant

-- the constant is one of those that hold
abbrev pub is_of : Option Holding → Constant → Bool
is_of (Some holdings.Gnd) constants.Gnd = true
is_of (Some holdings.Gnd) constants.Vcc = false
is_of (Some holdings.Vcc) constants.Gnd = false
is_of (Some holdings.Vcc) constants.Vcc = true
is_of (Some holdings.Both) constant = true
is_of None constant = false

-- a constant holds a wire
abbrev pub HasWire : Holdings → Constant → SiteNumber → SiteWireNumber → Type 0
HasWire holdings constant site wire = is_of (get holdings (site, wire)) constant ≡ true

-- constants hold wires besides
pub record Adds (more : Constant → SiteNumber → SiteWireNumber → Type 0) (before now : Holdings)
    : Type 0 where
  pub only : (constant : Constant) (site : SiteNumber) (wire : SiteWireNumber)
      → HasWire now constant site wire
      → HasWire before constant site wire ⊎ more constant site wire
  pub keeps : (constant : Constant) (site : SiteNumber) (wire : SiteWireNumber)
      → HasWire before constant site wire → HasWire now constant site wire
  pub adds : (constant : Constant) (site : SiteNumber) (wire : SiteWireNumber)
      → more constant site wire → HasWire now constant site wire

-- this constant holds this resource
abbrev pub IsOne : Constant → Res → Constant → SiteNumber → SiteWireNumber → Type 0
IsOne one r constant site wire = (constant ≡ one) × (r ≡ Wire site wire)

-- both ends of a segment, where it has ends
abbrev pub IsEither : Constant → Option (Res × Res) → Constant → SiteNumber → SiteWireNumber
    → Type 0
IsEither one None constant site wire = ⊥
IsEither one (Some both) constant site wire = IsOne one both.0 constant site wire
    ⊎ IsOne one both.1 constant site wire

-- the ends of the first so many segments
pub record IsAmong (rec : DeviceRec) (branches : List (Branch Segment)) (count : ℕ) (one : Constant)
    (constant : Constant) (site : SiteNumber) (wire : SiteWireNumber) : Type 0 where
  pub place : ℕ
  pub before : place < count
  pub branch : Branch Segment
  pub branch_is : slice_get branches place ≡ Some branch
  pub is_end : IsEither one (ends rec branch.item) constant site wire

-- what a net holds, where it is a constant's
pub record IsOfNet (rec : DeviceRec) (net : PhysNet) (constant : Constant) (site : SiteNumber)
    (wire : SiteWireNumber) : Type 0 where
  pub constant_is : constant_of_net net.ty ≡ Some constant
  pub has_end : HasEnd rec net (Wire site wire)

-- what the first so many nets do
pub record IsOfNets (rec : DeviceRec) (nets : List PhysNet) (count : ℕ) (constant : Constant)
    (site : SiteNumber) (wire : SiteWireNumber) : Type 0 where
  pub number : NetNumber
  pub before : number < count
  pub net : PhysNet
  pub net_is : slice_get nets number ≡ Some net
  pub is_of_net : IsOfNet rec net constant site wire

-- the wires that the constants hold
abbrev pub AreHoldings : DeviceRec → List PhysNet → Holdings → Type 0
AreHoldings rec nets holdings = (constant : Constant) (site : SiteNumber) (wire : SiteWireNumber)
    → HasWire holdings constant site wire
    ↔ Holds rec nets (Wire site wire) (net_of_constant constant)

-- how a wire is held; none where both constants hold it
abbrev pub tie_of : Option Holding → Option Tie
tie_of None = Some ties.Free
tie_of (Some holdings.Gnd) = Some ties.Gnd
tie_of (Some holdings.Vcc) = Some ties.Vcc
tie_of (Some holdings.Both) = None

-- What holds a wire; none where both constants do.
abbrev pub TellsTie : DeviceRec → List PhysNet → Res → Option Tie → Type 0
TellsTie rec nets r (Some tie) = IsHeld rec nets r tie
TellsTie rec nets r None = (tie : Tie) → ¬ IsHeld rec nets r tie
