-- Nets through the hierarchy: the occurrences that a chain of crossings joins are one net.
use Rattle.std.specs.Prelude.{◌≡◌, ◌⊎◌, ℕ, List, [], ◌∷◌, ◌++◌, slice_get, slice_index_or}
use Rattle.std.specs.Prelude.{Some, Bool, true, false, nat_eq, ◌&&◌}
use Rattle.std.specs.List.{list_any}
use Rattle.ix_message.specs.Shape.{Text}
use Rattle.ix_rec.specs.declared.netlist.Cell.{Cell}
use Rattle.ix_rec.specs.declared.netlist.Net.{Net}
use Rattle.ix_rec.specs.declared.netlist.NetlistRec.{NetlistRec}
use Rattle.ix_rec.specs.declared.netlist.PortIndexing.{PortIndexing}
use Rattle.ix_rec.specs.declared.netlist.PortIndexing.TheVariants.{SingleBit, Idx}
use Rattle.ix_rec.specs.declared.netlist.PortInstance.{PortInstance}
use Rattle.ix_rec.specs.declared.netlist.PortOwner.{PortOwner}
use Rattle.ix_rec.specs.declared.netlist.PortOwner.TheVariants.{ExtPort, Inst}
use Rattle.ix_hierarchy.specs.Hierarchy.{Path, PortBit, inside_at, flat_name}
use Rattle.ix_hierarchy.specs.Walk.{Spot, NetAt, IsBefore}

-- The bit that a net names.

abbrev pub index_of : PortIndexing → (idx : ℕ) → ℕ
index_of SingleBit idx = 0
index_of Idx idx = idx

abbrev pub bit_of : PortInstance → PortBit
bit_of named = record { port = named.port; index = index_of named.bus named.idx }

abbrev pub same_bit : PortBit → PortBit → Bool
same_bit a b = nat_eq a.port b.port && nat_eq a.index b.index

-- whether it is a bit of the cell itself, or of this instance, by its place in the netlist's list
abbrev pub is_own : PortOwner → Bool
is_own ExtPort = true
is_own (Inst instance) = false

abbrev pub is_of : (instance : ℕ) → PortOwner → Bool
is_of instance ExtPort = false
is_of instance (Inst other) = nat_eq other instance

-- a net of a cell names a bit of the cell itself, or of an instance in it
abbrev pub names_own : Net → PortBit → Bool
names_own net bit =
    list_any (λ named. is_own named.owner && same_bit (bit_of named) bit) net.port_insts

abbrev pub names_of : (instance : ℕ) → Net → PortBit → Bool
names_of instance net bit =
    list_any (λ named. is_of instance named.owner && same_bit (bit_of named) bit) net.port_insts

-- A net of the cell of an instance: it occurs once for each instance of the cell.
pub record Occurrence : Type 0 where
  pub path : Path
  pub net : ℕ

-- the occurrence is there, and this is its cell and its net
pub record Occurs (design : NetlistRec) (at : Occurrence) (cell : Cell) (net : Net) : Type 0 where
  pub inside : inside_at design at.path ≡ Some cell
  pub net_is : slice_get cell.nets at.net ≡ Some net

-- The lower occurrence is in a child of the upper one's instance, and both nets name one port bit
-- between the two.
pub record Enters (design : NetlistRec) (upper lower : Occurrence) : Type 0 where
  pub place : ℕ
  pub below : lower.path ≡ upper.path ++ place ∷ []
  pub cell : Cell
  pub net : Net
  pub here : Occurs design upper cell net
  pub instance : ℕ
  pub which : slice_get cell.insts place ≡ Some instance
  pub inner_cell : Cell
  pub inner_net : Net
  pub there : Occurs design lower inner_cell inner_net
  pub bit : PortBit
  pub outside : names_of instance net bit ≡ true
  pub inside : names_own inner_net bit ≡ true

abbrev pub Cross : NetlistRec → Occurrence → Occurrence → Type 0
Cross design a b = Enters design a b ⊎ Enters design b a

-- each crosses into the next
abbrev pub IsChain : NetlistRec → Occurrence → List Occurrence → Occurrence → Type 0
IsChain design from [] to = from ≡ to
IsChain design from (next ∷ chain) to = Cross design from next × IsChain design next chain to

-- a chain of crossings joins the two: they are one net
abbrev pub AreOneNet : NetlistRec → Occurrence → Occurrence → Type 0
AreOneNet design a b = (chain : List Occurrence) × IsChain design a chain b

abbrev pub spot_of : Occurrence → Spot
spot_of at = NetAt at.path at.net

-- Of the occurrences of a net this is the first in the walk: the net has its name.
pub record IsFirstOf (design : NetlistRec) (at : Occurrence) : Type 0 where
  pub cell : Cell
  pub net : Net
  pub occurs : Occurs design at cell net
  pub first : (other : Occurrence) → AreOneNet design at other
      → IsBefore (spot_of other) (spot_of at) → ⊥

abbrev pub net_text : List Text → NetlistRec → Path → Net → Text
net_text names design path net =
    flat_name names design path (slice_index_or names net.name [] ∷ [])
