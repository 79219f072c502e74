-- Cells of LUT types that have no truth table.
use Rattle.std.specs.Prelude.{◌≡◌, ◌<◌, ◌++◌, ℕ, List, slice_get, Some, codes}
use Rattle.ix_message.specs.Shape.{Text}
use Rattle.ix_rec.specs.declared.device.DeviceRec.{DeviceRec}
use Rattle.ix_rec.specs.declared.device.LutCell.{LutCell}
use Rattle.ix_rec.specs.declared.netlist.NetlistRec.{NetlistRec}
use Rattle.ix_rec.specs.declared.netlist.Port.{Port}
use Rattle.ix_hierarchy.specs.Hierarchy.{Path, written}
use Rattle.ix_hierarchy.specs.Walk.{InstanceAt, IsBefore}
use Rattle.ix_hierarchy.specs.FlatDesign.{lut_of_type}
use Rattle.ix_hierarchy.specs.Broken.{BreaksN6}
use Rattle.ix_joined.specs.declared.top_bit.TopBit.{TopBit}
use Rattle.ix_joined.specs.Joining.{Known}
use Rattle.ix_flat_lists.specs.declared.port_names.PortNames.{PortNames}
use Rattle.ix_flat_lists.specs.Listed.{type_towards}

-- the port cell of a bit of the top has a LUT type
abbrev pub IsLutPort : DeviceRec → PortNames → TopBit → Type 0
IsLutPort rec types bit = (ty : ℕ) × (lut : LutCell) × (type_towards types bit.dir ≡ Some ty)
    × (lut_of_type rec ty ≡ Some lut)

-- none of the first so many
abbrev pub NoLutPort : DeviceRec → PortNames → List TopBit → (count : ℕ) → Type 0
NoLutPort rec types bits count = (k : ℕ) (bit : TopBit) → k < count → slice_get bits k ≡ Some bit
    → ¬ IsLutPort rec types bit

-- the first one, by its place
pub record IsFirstLutPort (rec : DeviceRec) (types : PortNames) (bits : List TopBit) (place : ℕ)
    : Type 0 where
  pub bit : TopBit
  pub bit_is : slice_get bits place ≡ Some bit
  pub lut : IsLutPort rec types bit
  pub first : NoLutPort rec types bits place

-- no leaf lacks its table
abbrev pub NoneLacks : Known → NetlistRec → Type 0
NoneLacks known design =
    (path : Path) → ¬ BreaksN6 known.names known.device design (InstanceAt path)

-- the first leaf that does, by its number in preorder
pub record IsFirstLacking (known : Known) (design : NetlistRec) (instance : ℕ) : Type 0 where
  pub path : Path
  pub path_is : slice_get known.paths instance ≡ Some path
  pub here : BreaksN6 known.names known.device design (InstanceAt path)
  pub first : (other : Path) → IsBefore (InstanceAt other) (InstanceAt path)
      → ¬ BreaksN6 known.names known.device design (InstanceAt other)

-- the name of the port cell of a bit
abbrev pub IsPortText : List Text → NetlistRec → TopBit → Text → Type 0
IsPortText names design bit word = (port : Port) → slice_get design.port_list bit.port ≡ Some port
    → word ≡ codes "$port/" ++ written names port bit.index
