-- What follows from being the flat design of a netlist.
use Rattle.std.specs.Prelude.{◌≡◌, ℕ, List, length, slice_get, Some}
use Rattle.ix_message.specs.Shape.{Text}
use Rattle.ix_strings.specs.Names.{AllDiffer}
use Rattle.ix_rec.specs.declared.device.DeviceRec.{DeviceRec}
use Rattle.ix_rec.specs.declared.flow.Flat.{Flat}
use Rattle.ix_rec.specs.declared.netlist.CellInstance.{CellInstance}
use Rattle.ix_rec.specs.declared.netlist.NetlistRec.{NetlistRec}
use Rattle.ix_flat.specs.Range.{IsInRange, IsNamed}
use Rattle.ix_flat.specs.Whole.{IsWhole}
use Rattle.ix_hierarchy.specs.Hierarchy.{Path}
use Rattle.ix_hierarchy.specs.Nets.{Occurrence}
use Rattle.ix_hierarchy.specs.Pins.{IsOnNet, IsPlainLeaf, Pin}
use Rattle.ix_hierarchy.specs.FlatDesign.{IsFlatPin, LeafCell}
use Rattle.ix_hierarchy.specs.Fits.{AreInputsNamed, NetlistFits}
use Rattle.ix_hierarchy.specs.Broken.{IsFlattened, IsJoined, IsLutInput}

-- each input of a LUT cell is a pin on a net that has a sink
abbrev pub AreJoined : List Text → DeviceRec → NetlistRec → Type 0
AreJoined names rec design = (path : Path) (inst : CellInstance) (ty input pin : ℕ) (text : Text)
    → IsPlainLeaf rec design path inst ty → IsLutInput rec ty input pin
    → slice_get names pin ≡ Some text → IsJoined rec names design path text

-- two pins that are on nets and have one cell and one written name are one pin
abbrev pub AreApart : List Text → NetlistRec → (ports : ℕ) → List LeafCell → Type 0
AreApart names design ports leaves = (one other : Pin) (cell : ℕ) (text : Text)
    (at there : Occurrence) → IsFlatPin names design ports leaves one cell text
    → IsFlatPin names design ports leaves other cell text → IsOnNet design one at
    → IsOnNet design other there → one ≡ other

pub record IsSound (names : List Text) (rec : DeviceRec) (flat : Flat) : Type 0 where
  pub range : IsInRange rec flat
  pub named : IsNamed (length names) flat
  pub whole : IsWhole names rec flat

abbrev pub FlatDesignsAreWhole : Type 0
FlatDesignsAreWhole = (names : List Text) (rec : DeviceRec) (design : NetlistRec) (flat : Flat)
    → AllDiffer names → NetlistFits (length names) design → AreInputsNamed (length names) rec
    → (flattened : IsFlattened names rec design flat) → AreJoined names rec design
    → AreApart names design flat.ports flattened.is.leaves → IsSound names rec flat
