-- The rows of a leaf's pins, and what a pin does.
use Rattle.std.specs.Prelude.{◌≡◌, ◌↔◌, ◌⊎◌, ◌<◌, ◌≤◌, ℕ, List, length, slice_get, Some, Bool}
use Rattle.std.specs.Prelude.{IsTrue, true, false}
use Rattle.ix_num.specs.declared.resource.Constant.{Constant}
use Rattle.ix_message.specs.Shape.{Text}
use Rattle.ix_rec.specs.declared.device.DeviceRec.{DeviceRec}
use Rattle.ix_rec.specs.declared.netlist.CellInstance.{CellInstance}
use Rattle.ix_rec.specs.declared.netlist.NetlistRec.{NetlistRec}
use Rattle.ix_hierarchy.specs.declared.row.Row.{Row}
use Rattle.ix_hierarchy.specs.Hierarchy.{Path, PortBit, IsLeaf, written_bit}
use Rattle.ix_hierarchy.specs.Nets.{Occurrence}
use Rattle.ix_hierarchy.specs.Pins.{Pin, LeafPin as LeafPinAt, IsDriver, IsSink, IsConstantPin}
use Rattle.ix_hierarchy.specs.Pins.{IsLeafPinOn}
use Rattle.ix_hierarchy.specs.Lists.{bit_in}
use Rattle.ix_joined.specs.declared.joined.Joined.{Joined}
use Rattle.ix_joined.specs.declared.pin.LeafPin.{LeafPin}
use Rattle.ix_joined.specs.declared.pin.Role.{Role}
use Rattle.ix_joined.specs.declared.pin.Role.TheVariants as roles
use Rattle.ix_joined.specs.Joining.{Known, IsPinOf}

-- a row of a leaf's pins, by its place: the leaf's bit that it names is on its net
pub record IsPinPlace (known : Known) (design : NetlistRec) (joined : Joined)
    (instance place : ℕ) : Type 0 where
  pub path : Path
  pub path_is : slice_get known.paths instance ≡ Some path
  pub row : Row
  pub row_is : slice_get joined.outer.rows place ≡ Some row
  pub parent : Path
  pub on : IsLeafPinOn design path (bit_in row) record { path = parent; net = row.net }

-- The rows of an instance's pins, where it is a leaf: all of them, each bit once, rising.
pub record ArePins (known : Known) (design : NetlistRec) (joined : Joined) (instance : ℕ)
    (path : Path) (start end : ℕ) : Type 0 where
  pub some : start ≤ end
  pub to : end ≤ length joined.outer.rows
  pub each : (k : ℕ) (inst : CellInstance) → start ≤ k → k < end → IsLeaf design path inst
      → IsPinPlace known design joined instance k
  pub all : (bit : PortBit) (at : Occurrence) → IsLeafPinOn design path bit at
      → (k : ℕ) × (row : Row) × (start ≤ k) × (k < end)
      × (slice_get joined.outer.rows k ≡ Some row) × (bit_in row ≡ bit) × (row.net ≡ at.net)
  pub once : (j k : ℕ) (a b : Row) → start ≤ j → j < end → start ≤ k → k < end
      → slice_get joined.outer.rows j ≡ Some a → slice_get joined.outer.rows k ≡ Some b
      → bit_in a ≡ bit_in b → j ≡ k
  pub rise : (j k : ℕ) (a b : Row) → start ≤ j → j < k → k < end
      → slice_get joined.outer.rows j ≡ Some a → slice_get joined.outer.rows k ≡ Some b
      → (a.port < b.port) ⊎ ((a.port ≡ b.port) × (a.index < b.index))

abbrev pub drives : Role → Bool
drives roles.Driver = true
drives (roles.Constant constant) = true
drives roles.Sink = false
drives roles.Nothing = false

abbrev pub is_driven : Role → Bool
is_driven roles.Sink = true
is_driven roles.Driver = false
is_driven (roles.Constant constant) = false
is_driven roles.Nothing = false

-- what a pin does
pub record HasRole (names : List Text) (rec : DeviceRec) (design : NetlistRec) (pin : Pin)
    (role : Role) : Type 0 where
  pub driver : IsTrue (drives role) ↔ IsDriver names rec design pin
  pub sink : IsTrue (is_driven role) ↔ IsSink rec design pin
  pub constant : (constant : Constant) → (role ≡ roles.Constant constant)
      ↔ ((path : Path) × (bit : PortBit) × (pin ≡ LeafPinAt path bit)
      × IsConstantPin names rec design constant path bit)

-- what is told of the pin of a row
pub record IsFoundAt (known : Known) (design : NetlistRec) (joined : Joined)
    (instance place : ℕ) (pin : LeafPin) : Type 0 where
  pub at : IsPinPlace known design joined instance place
  pub port_is : pin.port ≡ at.row.port
  pub text : Text
  pub name_is : slice_get known.names pin.name ≡ Some text
  pub written_is : written_bit known.names design (bit_in at.row) ≡ Some text
  pub net_is : IsPinOf design joined.instances.items known.paths joined.firsts.items
      (LeafPinAt at.path (bit_in at.row)) pin.net
  pub role_is : HasRole known.names known.device design (LeafPinAt at.path (bit_in at.row))
      pin.role
