-- Open inputs of one LUT cell.
use Rattle.std.specs.Prelude.{◌≡◌, ℕ, List, [], ◌∷◌, slice_get, slice_index_or, Some}
use Rattle.ix_message.specs.Shape.{Text}
use Rattle.ix_rec.specs.declared.device.DeviceRec.{DeviceRec}
use Rattle.ix_rec.specs.declared.netlist.CellInstance.{CellInstance}
use Rattle.ix_rec.specs.declared.netlist.NetlistRec.{NetlistRec}
use Rattle.ix_hierarchy.specs.Hierarchy.{Path, flat_name}
use Rattle.ix_hierarchy.specs.Walk.{PinAt}
use Rattle.ix_hierarchy.specs.Pins.{IsPlainLeaf}
use Rattle.ix_hierarchy.specs.Broken.{BreaksN7At, IsJoined, IsLutInput}
use Rattle.ix_open_inputs.specs.Standings.{IsEarlier}

-- each input of the LUT cell at a path is a pin on a net that has a sink
abbrev pub AreAllJoined : List Text → DeviceRec → NetlistRec → Path → Type 0
AreAllJoined names rec design path = (inst : CellInstance) (ty input pin : ℕ) (text : Text)
    → IsPlainLeaf rec design path inst ty → IsLutInput rec ty input pin
    → slice_get names pin ≡ Some text → IsJoined rec names design path text

-- the first that isn't, by its name
pub record IsFirstOpenOf (names : List Text) (rec : DeviceRec) (design : NetlistRec) (path : Path)
    (name : ℕ) : Type 0 where
  pub place : ℕ
  pub index : ℕ
  pub text : Text
  pub named : slice_get names name ≡ Some text
  pub here : BreaksN7At names rec design (PinAt path place index) text
  pub first : (p i : ℕ) (other : Text) → BreaksN7At names rec design (PinAt path p i) other
      → ¬ IsEarlier p i place index

-- CELL/PIN
abbrev pub IsInputText : List Text → NetlistRec → Path → (name : ℕ) → Text → Type 0
IsInputText names design path name word =
    word ≡ flat_name names design path (slice_index_or names name [] ∷ [])
