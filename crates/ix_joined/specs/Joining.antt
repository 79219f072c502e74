-- What is known of a netlist that keeps N1, N2, N9 and N10, in lists by number.
use Rattle.std.specs.Prelude.{◌≡◌, ◌<◌, ◌≤◌, ◌+◌, ◌^◌, ℕ, List, [], ◌∷◌, ◌++◌, length, map}
use Rattle.std.specs.Prelude.{slice_get, Option, Some, None}
use Rattle.std.specs.List.{range_with_len}
use Rattle.ix_message.specs.Shape.{Text}
use Rattle.ix_rec.specs.declared.device.DeviceRec.{DeviceRec}
use Rattle.ix_rec.specs.declared.device.Direction.{Direction}
use Rattle.ix_rec.specs.declared.netlist.NetlistRec.{NetlistRec}
use Rattle.ix_rec.specs.declared.netlist.Port.{Port}
use Rattle.ix_strings.specs.Names.{AllDiffer}
use Rattle.ix_hierarchy.specs.declared.instance.Instance.{Instance}
use Rattle.ix_hierarchy.specs.Hierarchy.{Path, PortNumber, ports_of, width}
use Rattle.ix_hierarchy.specs.Walk.{TopBit as TopSpot, IsBefore}
use Rattle.ix_hierarchy.specs.Nets.{Occurrence}
use Rattle.ix_hierarchy.specs.Pins.{Pin, TopPin, IsOn, IsTopBit}
use Rattle.ix_hierarchy.specs.Fits.{NetlistFits}
use Rattle.ix_hierarchy.specs.Broken.{Keeps10}
use Rattle.ix_hierarchy.specs.Lists.{AreInstances, AreKinds, AreFirsts, AreWritten, IsNumber}
use Rattle.ix_hierarchy.specs.Lists.{IsOuterRow}
use Rattle.ix_instance_lists.specs.Listed.{AreNumbered}
use Rattle.ix_bit_rows.specs.Table.{AreRowsIn}
use Rattle.ix_joined.specs.declared.joined.Joined.{Joined}
use Rattle.ix_joined.specs.declared.top_bit.TopBit.{TopBit}

-- the names, the device, and the path of each instance
pub record Known : Type 0 where
  pub names : List Text
  pub device : DeviceRec
  pub paths : List Path

pub record IsJoined (known : Known) (design : NetlistRec) (joined : Joined) : Type 0 where
  pub fits : NetlistFits (length known.names) design
  pub differ : AllDiffer known.names
  pub keeps : Keeps10 known.names known.device design
  pub are_kinds : AreKinds known.device design joined.kinds.items
  pub rows : AreRowsIn design IsOuterRow joined.outer
  pub are_written : AreWritten known.names design joined.outer.rows joined.written.items
  pub are_instances : AreInstances design joined.instances.items known.paths
      (length joined.firsts.items)
  pub numbered : AreNumbered design joined.instances.items known.paths
      (length joined.firsts.items)
  pub few : length joined.instances.items + length joined.firsts.items ≤ 2 ^ 22 + 1
  pub are_firsts : AreFirsts design joined.instances.items known.paths joined.firsts.items

abbrev pub HasJoined : Joined → Type 0
HasJoined joined = (known : Known) × (design : NetlistRec) × IsJoined known design joined

-- A pin is on a net whose first occurrence has this number.
pub record IsPinOf (design : NetlistRec) (all : List Instance) (paths : List Path)
    (firsts : List ℕ) (pin : Pin) (net : ℕ) : Type 0 where
  pub at : Occurrence
  pub on : IsOn design pin at
  pub number : ℕ
  pub is_number : IsNumber design all paths at number
  pub first_is : slice_get firsts number ≡ Some net

-- the first occurrence of a pin's net; none exactly where it is on none
abbrev pub IsFirstNet : NetlistRec → List Instance → List Path → List ℕ → Pin → Option ℕ → Type 0
IsFirstNet design all paths firsts pin None = (at : Occurrence) → ¬ IsOn design pin at
IsFirstNet design all paths firsts pin (Some net) = IsPinOf design all paths firsts pin net

-- The bits of the top's ports.

-- a bit, by the place of its port in the top's declaration
pub record TopPlace : Type 0 where
  pub place : ℕ
  pub index : ℕ
  pub number : PortNumber
  pub dir : Direction

abbrev pub bits_at : (place : ℕ) → PortNumber → Option Port → List TopPlace
bits_at place number None = []
bits_at place number (Some port) =
    map (λ index. record { place = place; index = index; number = number; dir = port.dir })
    (range_with_len 0 (width port))

-- those of ports from a place on
abbrev pub places_from : NetlistRec → (place : ℕ) → List PortNumber → List TopPlace
places_from design place [] = []
places_from design place (number ∷ numbers) =
    bits_at place number (slice_get design.port_list number)
    ++ places_from design (place + 1) numbers

-- all, in the order of the declaration and by index
abbrev pub top_places : NetlistRec → List TopPlace
top_places design = places_from design 0 (ports_of design design.top_inst.cell)

-- they are the bits of the walk, in its order
pub record ArePlaces (design : NetlistRec) (places : List TopPlace) : Type 0 where
  pub each : (k : ℕ) (at : TopPlace) → slice_get places k ≡ Some at
      → (port : Port) × IsTopBit design at.place at.index at.number port × (port.dir ≡ at.dir)
  pub all : (place index number : ℕ) (port : Port) → IsTopBit design place index number port
      → (k : ℕ) × (slice_get places k
      ≡ Some record { place = place; index = index; number = number; dir = port.dir })
  pub rise : (j k : ℕ) (a b : TopPlace) → j < k → slice_get places j ≡ Some a
      → slice_get places k ≡ Some b → IsBefore (TopSpot a.place a.index) (TopSpot b.place b.index)

-- what is known of a bit
pub record IsBitOf (design : NetlistRec) (all : List Instance) (paths : List Path)
    (firsts : List ℕ) (at : TopPlace) (bit : TopBit) : Type 0 where
  pub port_is : bit.port ≡ at.number
  pub index_is : bit.index ≡ at.index
  pub dir_is : bit.dir ≡ at.dir
  pub net_is : IsFirstNet design all paths firsts (TopPin at.place at.index) bit.net

pub record AreTopBits (design : NetlistRec) (all : List Instance) (paths : List Path)
    (firsts : List ℕ) (bits : List TopBit) : Type 0 where
  pub places : ArePlaces design (top_places design)
  pub many : length bits ≡ length (top_places design)
  pub each : (k : ℕ) (at : TopPlace) (bit : TopBit) → slice_get (top_places design) k ≡ Some at
      → slice_get bits k ≡ Some bit → IsBitOf design all paths firsts at bit
