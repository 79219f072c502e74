-- Laws of the pins and the sizes of flat designs.
use Rattle.std.specs.Prelude.{◌≡◌, ◌≤◌, ◌+◌, ◌^◌, ℕ, List, length, slice_get, Some, Bool, true}
use Rattle.std.specs.Prelude.{is_some, count_by, take}
use Rattle.ix_message.specs.Shape.{Text}
use Rattle.ix_rec.specs.declared.device.DeviceRec.{DeviceRec}
use Rattle.ix_rec.specs.declared.netlist.NetlistRec.{NetlistRec}
use Rattle.ix_hierarchy.specs.Nets.{Occurrence}
use Rattle.ix_hierarchy.specs.Broken.{Keeps2, Keeps10}
use Rattle.ix_hierarchy.specs.FlatDesign.{AreLeafCells, AreSignals, LeafCell, cells_before}
use Rattle.ix_hierarchy.specs.FlatDesign.{port_cells, port_type}
use Rattle.ix_joined.specs.Joining.{ArePlaces, TopPlace, top_places}
use Rattle.ix_flat_laws.specs.Laws.{AreApart}

-- a bit of a port that goes one way
abbrev pub has_type : TopPlace → Bool
has_type at = is_some (port_type at.dir)

-- A bit with a type is the cell that so many of the ports before it and the bits of its own port
-- come to, and port cells are as many as bits with a type.
pub record ArePortCellsCounted (names : List Text) (design : NetlistRec) : Type 0 where
  pub before : (k : ℕ) (at : TopPlace) → slice_get (top_places design) k ≡ Some at
      → has_type at ≡ true
      → count_by has_type (take k (top_places design)) ≡ cells_before design at.place + at.index
  pub all : length (port_cells names design) ≡ count_by has_type (top_places design)

abbrev pub PortCellsAreCounted : Type 0
PortCellsAreCounted = (names : List Text) (design : NetlistRec) → ArePortCellsCounted names design

-- Two pins that are on nets and have one cell and one written name are one pin, where N1 and N2 are
-- kept.
abbrev pub PinsAreApart : Type 0
PinsAreApart = (names : List Text) (rec : DeviceRec) (design : NetlistRec) (leaves : List LeafCell)
    → Keeps2 names design → AreLeafCells rec design leaves
    → AreApart names design (length (port_cells names design)) leaves

-- bits of the top's ports, leaves that are cells, and signal nets, together and each by itself
pub record IsSmall (names : List Text) (design : NetlistRec) (leaves : List LeafCell)
    (signals : List Occurrence) : Type 0 where
  pub together : length (top_places design) + length leaves + length signals ≤ 2 ^ 22
  pub places : length (top_places design) ≤ 2 ^ 22
  pub ports : length (port_cells names design) ≤ length (top_places design)
  pub cells : length (port_cells names design) + length leaves ≤ 2 ^ 22
  pub nets : length signals ≤ 2 ^ 22

-- A design that keeps N10 is small.
abbrev pub DesignsAreSmall : Type 0
DesignsAreSmall = (names : List Text) (rec : DeviceRec) (design : NetlistRec)
    (leaves : List LeafCell) (signals : List Occurrence) → Keeps10 names rec design
    → ArePlaces design (top_places design) → AreLeafCells rec design leaves
    → AreSignals names rec design signals → IsSmall names design leaves signals
