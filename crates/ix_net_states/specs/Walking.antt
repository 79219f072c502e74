-- The pins that were gone through.
use Rattle.std.specs.Prelude.{◌≡◌, ◌<◌, ◌≤◌, ◌⊎◌, ℕ}
use Rattle.std.specs.Prelude.{List, slice_get, slice_set, slice_index_or, Option}
use Rattle.std.specs.Prelude.{Some, None}
use Rattle.ix_rec.specs.declared.device.Constants.{Constants}
use Rattle.ix_rec.specs.declared.netlist.CellInstance.{CellInstance}
use Rattle.ix_rec.specs.declared.netlist.NetlistRec.{NetlistRec}
use Rattle.ix_hierarchy.specs.declared.row.Row.{Row}
use Rattle.ix_hierarchy.specs.Hierarchy.{Path, IsLeaf}
use Rattle.ix_hierarchy.specs.Lists.{bit_in}
use Rattle.ix_hierarchy.specs.Pins.{Pin, LeafPin, TopPin}
use Rattle.ix_joined.specs.declared.joined.Joined.{Joined}
use Rattle.ix_joined.specs.declared.pin.Role.{Role}
use Rattle.ix_joined.specs.declared.state.NetState.{NetState}
use Rattle.ix_joined.specs.declared.top_bit.TopBit.{TopBit}
use Rattle.ix_joined.specs.Joining.{Known, IsJoined, AreTopBits, TopPlace, top_places}
use Rattle.ix_joined.specs.Roles.{nothing, with_role}

-- with a pin on a net
abbrev pub on_net : List NetState → Option ℕ → Role → List NetState
on_net states None role = states
on_net states (Some net) role =
    slice_set states net (with_role (slice_index_or states net nothing) role)

-- what is known when states are made
pub record AreReady (known : Known) (design : NetlistRec) (joined : Joined)
    (constants : Option Constants) (bits : List TopBit) : Type 0 where
  pub are : IsJoined known design joined
  pub constants_are : constants ≡ known.device.constants
  pub top : AreTopBits design joined.instances.items known.paths joined.firsts.items bits

-- the first bits of the top
pub record IsTopDone (design : NetlistRec) (count : ℕ) (pin : Pin) : Type 0 where
  pub k : ℕ
  pub at : TopPlace
  pub less : k < count
  pub at_is : slice_get (top_places design) k ≡ Some at
  pub pin_is : pin ≡ TopPin at.place at.index

-- all bits of the top, and the pins of the first instances
abbrev pub IsDone : Known → (count : ℕ) → Pin → Type 0
IsDone known count (TopPin place index) = Unit {0}
IsDone known count (LeafPin path bit) =
    (j : ℕ) × (j < count) × (slice_get known.paths j ≡ Some path)

-- rows of an instance
pub record IsRowDone (joined : Joined) (path : Path) (start end : ℕ) (pin : Pin) : Type 0 where
  pub k : ℕ
  pub row : Row
  pub from : start ≤ k
  pub to : k < end
  pub row_is : slice_get joined.outer.rows k ≡ Some row
  pub pin_is : pin ≡ LeafPin path (bit_in row)

abbrev pub IsDoneTo : Known → Joined → (count : ℕ) → Path → (start end : ℕ) → Pin → Type 0
IsDoneTo known joined count path start end pin =
    IsDone known count pin ⊎ IsRowDone joined path start end pin

-- the instance is a leaf
abbrev pub IsLeafAt : Known → NetlistRec → (instance : ℕ) → Path → Type 0
IsLeafAt known design instance path = (0 < instance)
    × (slice_get known.paths instance ≡ Some path)
    × ((inst : CellInstance) × IsLeaf design path inst)
