-- The rules in turn.
use Rattle.std.specs.Prelude.{◌<◌, ◌≤◌, ℕ, List, length, Result, Ok, Err}
use Rattle.ix_message.specs.Shape.{Text}
use Rattle.ix_rec.specs.declared.device.DeviceRec.{DeviceRec}
use Rattle.ix_rec.specs.declared.phys.Phys.{Phys}
use Rattle.ix_rec.specs.declared.place.Rule.{Rule}
use Rattle.ix_legal.specs.declared.level.Level.{Level}
use Rattle.ix_legal.specs.Legal.{Asks, order}
use Rattle.ix_legal.specs.declared.spot.Spot.{Spot}
use Rattle.ix_legal.specs.declared.spot.Spot.TheVariants.{InstanceAt, PlacementAt, NetAt}
use Rattle.ix_legal.specs.declared.spot.Spot.TheVariants.{SegmentAt, PropertyAt, ElementAt}
use Rattle.ix_legal.specs.Spots.{Everywhere, IsFirstBreak}
use Rattle.ix_rules.specs.declared.fault.Fault.{Fault}
use Rattle.ix_rules.specs.declared.fault.Fault.TheVariants.{Broken, Memory}

-- A netlist keeps each rule up to the one of this number.
abbrev pub KeepsUpTo : Level → List Text → DeviceRec → Phys → (count : ℕ) → Type 0
KeepsUpTo level names rec phys count = (rule : Rule) → order rule ≤ count
    → Everywhere (Asks level names rec phys rule)

-- It keeps the rules before this one, and breaks this one first here.
pub record IsBroken (level : Level) (names : List Text) (rec : DeviceRec) (phys : Phys)
    (rule : Rule) (spot : Spot) : Type 0 where
  pub earlier : (other : Rule) → order other < order rule
      → Everywhere (Asks level names rec phys other)
  pub first : IsFirstBreak (Asks level names rec phys rule) spot

-- a stage goes on where the rules up to its own are kept, and tells the first break
abbrev pub IsVerdict : {A : Type 0} → Level → List Text → DeviceRec → Phys → (count : ℕ)
    → Result A Fault → Type 0
IsVerdict level names rec phys count (Ok value) = KeepsUpTo level names rec phys count
IsVerdict level names rec phys count (Err (Broken rule spot)) =
    IsBroken level names rec phys rule spot
IsVerdict level names rec phys count (Err Memory) = Unit {0}

-- what a place names is in the netlist
abbrev pub IsInside : Phys → Spot → Type 0
IsInside phys (InstanceAt i) = i < length phys.site_insts
IsInside phys (PlacementAt i) = i < length phys.placements
IsInside phys (NetAt n) = n < length phys.nets
IsInside phys (SegmentAt n k) = n < length phys.nets
IsInside phys (PropertyAt i) = i < length phys.properties
IsInside phys (ElementAt i element) = i < length phys.site_insts
