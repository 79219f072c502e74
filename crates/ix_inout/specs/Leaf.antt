-- Pins of one leaf that go both ways and are on nets.
use Rattle.std.specs.Prelude.{◌≡◌, ◌<◌, ◌≤◌, ◌⊎◌, ℕ, List, slice_get, Some, None}
use Rattle.ix_rec.specs.declared.device.Direction.TheVariants.{Inout}
use Rattle.ix_rec.specs.declared.netlist.CellInstance.{CellInstance}
use Rattle.ix_rec.specs.declared.netlist.NetlistRec.{NetlistRec}
use Rattle.ix_rec.specs.declared.netlist.Port.{Port}
use Rattle.ix_hierarchy.specs.Hierarchy.{Path, PortBit, IsLeaf}
use Rattle.ix_hierarchy.specs.Nets.{Occurrence}
use Rattle.ix_hierarchy.specs.Pins.{LeafPin, IsLeafPinOn}
use Rattle.ix_hierarchy.specs.Broken.{IsLeafPin, IsInoutOn}
use Rattle.ix_hierarchy.specs.Walk.{PinAt}
use Rattle.ix_joined.specs.declared.joined.Joined.{Joined}
use Rattle.ix_joined.specs.declared.top_bit.TopBit.{TopBit}
use Rattle.ix_joined.specs.Joining.{Known, IsJoined, IsPinOf}

-- the first so many bits of the top that go both ways are on no net
abbrev pub NoInoutBit : List TopBit → (count : ℕ) → Type 0
NoInoutBit bits count = (k : ℕ) (bit : TopBit) → k < count → slice_get bits k ≡ Some bit
    → bit.dir ≡ Inout → bit.net ≡ None

-- the first that is on one
pub record IsFirstInoutBit (bits : List TopBit) (net : ℕ) : Type 0 where
  pub place : ℕ
  pub bit : TopBit
  pub bit_is : slice_get bits place ≡ Some bit
  pub inout : bit.dir ≡ Inout
  pub net_is : bit.net ≡ Some net
  pub first : NoInoutBit bits place

-- a leaf of a joined design, by its number in preorder
pub record IsAtLeaf (known : Known) (design : NetlistRec) (joined : Joined) (instance : ℕ)
    (path : Path) : Type 0 where
  pub is_joined : IsJoined known design joined
  pub path_is : slice_get known.paths instance ≡ Some path
  pub inst : CellInstance
  pub leaf : IsLeaf design path inst

-- a net names this bit of the leaf, and its port goes both ways
pub record IsInoutPin (design : NetlistRec) (path : Path) (bit : PortBit) : Type 0 where
  pub port : Port
  pub port_is : slice_get design.port_list bit.port ≡ Some port
  pub inout : port.dir ≡ Inout
  pub at : Occurrence
  pub on : IsLeafPinOn design path bit at

abbrev pub HasInout : NetlistRec → Path → Type 0
HasInout design path = (bit : PortBit) × IsInoutPin design path bit

-- none of a port
abbrev pub NoneOfPort : NetlistRec → Path → (number : ℕ) → Type 0
NoneOfPort design path number = (bit : PortBit) → bit.port ≡ number
    → ¬ IsInoutPin design path bit

-- the first of a port
pub record IsFirstOfPort (known : Known) (design : NetlistRec) (joined : Joined) (path : Path)
    (number net : ℕ) : Type 0 where
  pub bit : PortBit
  pub of_port : bit.port ≡ number
  pub pin : IsInoutPin design path bit
  pub first : (other : PortBit) → other.port ≡ number → IsInoutPin design path other
      → bit.index ≤ other.index
  pub net_is : IsPinOf design joined.instances.items known.paths joined.firsts.items
      (LeafPin path bit) net

-- the first of a leaf, in the order of its declaration's ports
pub record IsFirstOfLeaf (known : Known) (design : NetlistRec) (joined : Joined) (path : Path)
    (net : ℕ) : Type 0 where
  pub place : ℕ
  pub bit : PortBit
  pub port : Port
  pub leaf_pin : IsLeafPin design path place bit.index bit port
  pub inout : port.dir ≡ Inout
  pub first : (p i : ℕ) (at : Occurrence) → IsInoutOn design (PinAt path p i) at
      → (place < p) ⊎ ((place ≡ p) × (bit.index ≤ i))
  pub net_is : IsPinOf design joined.instances.items known.paths joined.firsts.items
      (LeafPin path bit) net
