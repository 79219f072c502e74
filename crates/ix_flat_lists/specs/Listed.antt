-- The cells and the signal nets of a flat design in lists by number.
use Rattle.std.specs.Prelude.{◌≡◌, ℕ, List, codes, length, slice_get, Option, Some, None}
use Rattle.ix_message.specs.Shape.{Text}
use Rattle.ix_rec.specs.declared.device.Direction.{Direction}
use Rattle.ix_rec.specs.declared.device.Direction.TheVariants.{Input, Output, Inout}
use Rattle.ix_rec.specs.declared.netlist.NetlistRec.{NetlistRec}
use Rattle.ix_hierarchy.specs.Nets.{Occurrence}
use Rattle.ix_hierarchy.specs.FlatDesign.{AreLeafCells, AreSignals, LeafCell, port_pin}
use Rattle.ix_hierarchy.specs.Lists.{IsNumber}
use Rattle.ix_joined.specs.declared.joined.Joined.{Joined}
use Rattle.ix_joined.specs.Joining.{Known}
use Rattle.ix_flat_lists.specs.declared.port_names.PortNames.{PortNames}

-- the type of the cells of a direction
abbrev pub type_towards : PortNames → Direction → Option ℕ
type_towards types Input = Some types.input
type_towards types Output = Some types.output
type_towards types Inout = None

-- the names of port cells' types and of their pin are these numbers
pub record ArePortNames (names : List Text) (types : PortNames) : Type 0 where
  pub input : slice_get names types.input ≡ Some (codes "$PORT_IN")
  pub output : slice_get names types.output ≡ Some (codes "$PORT_OUT")
  pub pin : slice_get names types.pin ≡ Some port_pin

-- the instances of the leaves that are cells, by their numbers in preorder
pub record AreLeaves (known : Known) (design : NetlistRec) (leaves : List ℕ)
    (cells : List LeafCell) : Type 0 where
  pub are : AreLeafCells known.device design cells
  pub many : length leaves ≡ length cells
  pub each : (k instance : ℕ) (leaf : LeafCell) → slice_get leaves k ≡ Some instance
      → slice_get cells k ≡ Some leaf → slice_get known.paths instance ≡ Some leaf.path

-- the first occurrences of the signal nets, by their numbers
pub record AreSignalNets (known : Known) (design : NetlistRec) (joined : Joined)
    (signals : List ℕ) (nets : List Occurrence) : Type 0 where
  pub are : AreSignals known.names known.device design nets
  pub many : length signals ≡ length nets
  pub each : (n number : ℕ) (at : Occurrence) → slice_get signals n ≡ Some number
      → slice_get nets n ≡ Some at
      → IsNumber design joined.instances.items known.paths at number
