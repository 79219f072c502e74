-- The pins of a flat design as a list.
use Rattle.std.specs.Prelude.{◌≡◌, ◌↔◌, ◌⊎◌, ◌<◌, ◌≤◌, ◌+◌, ℕ, List, [], ◌∷◌, ◌++◌, length}
use Rattle.std.specs.Prelude.{slice_get, Option, Some, None, is_some, IsTrue, MatchOption, Bool}
use Rattle.std.specs.Prelude.{true, false, count_by, take}
use Rattle.ix_num.specs.declared.resource.Constant.{Constant}
use Rattle.ix_num.specs.declared.resource.Constant.TheVariants as constants
use Rattle.ix_num.specs.declared.resource.NetRef.{NetRef}
use Rattle.ix_num.specs.declared.resource.NetRef.TheVariants as nets
use Rattle.ix_message.specs.Shape.{Text}
use Rattle.ix_rec.specs.declared.device.Constants.{Constants}
use Rattle.ix_rec.specs.declared.netlist.NetlistRec.{NetlistRec}
use Rattle.ix_hierarchy.specs.Hierarchy.{Path, PortBit, written_bit}
use Rattle.ix_hierarchy.specs.Nets.{Occurrence, IsFirstOf}
use Rattle.ix_hierarchy.specs.Pins.{Pin, LeafPin, TopPin, IsDriver, IsOnNet}
use Rattle.ix_hierarchy.specs.Broken.{HasTwoDrivers}
use Rattle.ix_hierarchy.specs.FlatDesign.{IsOfNet, LeafCell, port_pin}
use Rattle.ix_hierarchy.specs.declared.row.Row.{Row}
use Rattle.ix_hierarchy.specs.Lists.{bit_in}
use Rattle.ix_joined.specs.declared.joined.Joined.{Joined}
use Rattle.ix_joined.specs.declared.pin.Role.{Role}
use Rattle.ix_joined.specs.declared.pin.Role.TheVariants as roles
use Rattle.ix_joined.specs.declared.state.NetState.{NetState}
use Rattle.ix_joined.specs.declared.top_bit.TopBit.{TopBit}
use Rattle.ix_joined.specs.Joining.{IsJoined, Known, TopPlace, top_places}
use Rattle.ix_joined.specs.States.{AreStates}
use Rattle.ix_flat_lists.specs.declared.port_names.PortNames.{PortNames}
use Rattle.ix_flat_lists.specs.Listed.{AreSignalNets, type_towards}
use Rattle.ix_wiring.specs.declared.flat_pin.FlatPin.{FlatPin}

-- the cells and the nets that the flat design has
pub record Parts : Type 0 where
  pub cells : List LeafCell
  pub nets : List Occurrence

-- what is known of a design before its pins are listed
pub record IsListed (known : Known) (design : NetlistRec) (joined : Joined)
    (constants : Option Constants) (states : List NetState) (signals : List ℕ) (parts : Parts)
    : Type 0 where
  pub joined_is : IsJoined known design joined
  pub constants_are : constants ≡ known.device.constants
  pub states_are : AreStates known design joined states
  pub signals_are : AreSignalNets known design joined signals parts.nets
  pub one_driver : (at : Occurrence) → IsFirstOf design at
      → ¬ HasTwoDrivers known.names known.device design at

abbrev pub OfNet : Known → NetlistRec → Parts → Occurrence → NetRef → Type 0
OfNet known design parts at net = IsOfNet known.names known.device design parts.nets at net

-- the name that a pin has in the flat design
abbrev pub IsNamed : Known → NetlistRec → Pin → Text → Type 0
IsNamed known design (LeafPin path bit) text = written_bit known.names design bit ≡ Some text
IsNamed known design (TopPin place index) text = text ≡ port_pin

-- the item of a pin
pub record IsItem (known : Known) (design : NetlistRec) (parts : Parts) (pin : Pin) (cell : ℕ)
    (one : FlatPin) : Type 0 where
  pub cell_is : one.cell ≡ cell
  pub text : Text
  pub name_is : slice_get known.names one.pin ≡ Some text
  pub named : IsNamed known design pin text
  pub at : Occurrence
  pub on : IsOnNet design pin at
  pub of_net : OfNet known design parts at one.net
  pub only : (other : Occurrence) (net : NetRef) → IsOnNet design pin other
      → OfNet known design parts other net → one.net ≡ net
  pub drives : IsTrue one.drives ↔ IsDriver known.names known.device design pin

-- the pin is on no net of the flat design
abbrev pub HasNone : Known → NetlistRec → Parts → Pin → Type 0
HasNone known design parts pin = (at : Occurrence) (net : NetRef) → IsOnNet design pin at
    → OfNet known design parts at net → ⊥

-- the items of these pins of cells, all of them
pub record AreItems (known : Known) (design : NetlistRec) (parts : Parts)
    (Are : Pin → (cell : ℕ) → Type 0) (items : List FlatPin) : Type 0 where
  pub each : (k : ℕ) (one : FlatPin) → slice_get items k ≡ Some one
      → (pin : Pin) × (cell : ℕ) × Are pin cell × IsItem known design parts pin cell one
  pub all : (pin : Pin) (cell : ℕ) (at : Occurrence) (net : NetRef) → Are pin cell
      → IsOnNet design pin at → OfNet known design parts at net
      → (k : ℕ) × (one : FlatPin) × (slice_get items k ≡ Some one)
      × IsItem known design parts pin cell one

-- What private contracts say.

-- the number of each signal net, by its first occurrence
abbrev pub AreNumbersOf : (signals numbers : List ℕ) → Type 0
AreNumbersOf signals numbers = (n number : ℕ) → slice_get signals n ≡ Some number
    → slice_get numbers number ≡ Some n

abbrev pub net_with : Option Constant → (number : ℕ) → NetRef
net_with None number = nets.Signal number
net_with (Some constants.Gnd) number = nets.Gnd
net_with (Some constants.Vcc) number = nets.Vcc

-- the net of a state
abbrev pub net_if : Bool → Option Constant → (number : ℕ) → Option NetRef
net_if true constant number = Some (net_with constant number)
net_if false constant number = None

abbrev pub net_of : NetState → (number : ℕ) → Option NetRef
net_of state number = net_if state.has_sink state.constant number

abbrev pub is_driver : Role → Bool
is_driver roles.Driver = true
is_driver (roles.Constant constant) = false
is_driver roles.Sink = false
is_driver roles.Nothing = false

-- with the numbers of signal nets
pub record IsReady (known : Known) (design : NetlistRec) (joined : Joined)
    (constants : Option Constants) (states : List NetState) (numbers : List ℕ) (parts : Parts)
    : Type 0 where
  pub signals : List ℕ
  pub listed : IsListed known design joined constants states signals parts
  pub numbers_are : AreNumbersOf signals numbers
  pub numbers_many : length numbers ≡ length joined.firsts.items

-- an item for a pin of this net
abbrev pub item_on : (cell name : ℕ) → (drives : Bool) → Option NetRef → Option FlatPin
item_on cell name drives None = None
item_on cell name drives (Some net) =
    Some record { cell = cell; pin = name; net = net; drives = drives }

abbrev pub listed : {A : Type 0} → Option A → List A
listed None = []
listed (Some x) = x ∷ []

-- one pin of a cell
abbrev pub IsJust : Pin → (cell : ℕ) → Pin → ℕ → Type 0
IsJust pin cell other of = (other ≡ pin) × (of ≡ cell)

-- the pins of rows of a leaf
pub record IsRowPin (joined : Joined) (path : Path) (start end cell : ℕ) (pin : Pin) (of : ℕ)
    : Type 0 where
  pub place : ℕ
  pub from : start ≤ place
  pub to : place < end
  pub row : Row
  pub row_is : slice_get joined.outer.rows place ≡ Some row
  pub pin_is : pin ≡ LeafPin path (bit_in row)
  pub cell_is : of ≡ cell

-- the pins of a leaf
pub record IsPinOfLeaf (path : Path) (cell : ℕ) (pin : Pin) (of : ℕ) : Type 0 where
  pub bit : PortBit
  pub pin_is : pin ≡ LeafPin path bit
  pub cell_is : of ≡ cell

-- the pins of the first leaves
pub record IsPinOfLeaves (leaves : List LeafCell) (ports end : ℕ) (pin : Pin) (of : ℕ)
    : Type 0 where
  pub k : ℕ
  pub leaf : LeafCell
  pub low : k < end
  pub leaf_is : slice_get leaves k ≡ Some leaf
  pub its : IsPinOfLeaf leaf.path (ports + k) pin of

-- some items more, and these are they
abbrev pub Adds : Known → NetlistRec → Parts → (Pin → ℕ → Type 0) → (old new : List FlatPin)
    → Type 0
Adds known design parts Are old new =
    (more : List FlatPin) × (new ≡ old ++ more) × AreItems known design parts Are more

-- Port cells: the bits of the top's ports that have a type, in order.
abbrev pub is_typed : PortNames → TopBit → Bool
is_typed types bit = is_some (type_towards types bit.dir)

-- the pin of a port cell, by the place of its bit; its cell is the number of typed bits before it
pub record IsPinOfPort (design : NetlistRec) (types : PortNames) (bits : List TopBit) (end : ℕ)
    (pin : Pin) (cell : ℕ) : Type 0 where
  pub k : ℕ
  pub low : k < end
  pub bit : TopBit
  pub bit_is : slice_get bits k ≡ Some bit
  pub typed : is_typed types bit ≡ true
  pub place : TopPlace
  pub place_is : slice_get (top_places design) k ≡ Some place
  pub pin_is : pin ≡ TopPin place.place place.index
  pub cell_is : cell ≡ count_by (is_typed types) (take k bits)

-- the pins of all cells: port cells come first
abbrev pub IsFlat : NetlistRec → PortNames → List TopBit → List LeafCell → (ports leaves : ℕ)
    → Pin → ℕ → Type 0
IsFlat design types bits cells ports leaves pin cell =
    IsPinOfPort design types bits (length bits) pin cell ⊎ IsPinOfLeaves cells ports leaves pin cell
