-- The truth tables of LUT cells.
use Rattle.std.specs.Prelude.{◌≡◌, ◌≤◌, ℕ, List, length, Option, Some, None, option_and_then}
use Rattle.std.specs.Prelude.{nat_eq}
use Rattle.std.specs.List.{position}
use Rattle.ix_message.specs.Shape.{Text}
use Rattle.ix_keys.specs.Keys.{key, name_key}
use Rattle.ix_first.specs.declared.by_key.FirstByKey.{FirstByKey}
use Rattle.ix_first.specs.First.{value_at}
use Rattle.ix_rec.specs.declared.device.DeviceRec.{DeviceRec}
use Rattle.ix_rec.specs.declared.device.LutCell.{LutCell}
use Rattle.ix_rec.specs.declared.flow.TruthTable.{TruthTable}
use Rattle.ix_rec.specs.declared.netlist.CellInstance.{CellInstance}
use Rattle.ix_rec.specs.declared.netlist.Entry.{Entry}
use Rattle.ix_rec.specs.declared.netlist.NetlistRec.{NetlistRec}
use Rattle.ix_rec.specs.declared.netlist.PropertyValue.TheVariants as values
use Rattle.ix_device.specs.Elements.{is_lut_cell}
use Rattle.ix_hierarchy.specs.Pins.{type_of}
use Rattle.ix_hierarchy.specs.FlatDesign.{lut_of_type, init_number, table_of}

-- the place of the LUT cell that makes a type a LUT type; none where the type isn't one
abbrev pub lut_place : DeviceRec → (ty : ℕ) → Option ℕ
lut_place rec ty = position (is_lut_cell ty) rec.lut_definitions.lut_cells

-- a table of them, by type
abbrev pub AreLutTypes : DeviceRec → FirstByKey ℕ → Type 0
AreLutTypes rec types = (ty : ℕ) → value_at types (name_key ty) ≡ lut_place rec ty

-- the truth table of an instance as a LUT cell; none where its type isn't a LUT type, and where its
-- INIT is absent or has no reading
abbrev pub table_of_instance : List Text → DeviceRec → NetlistRec → CellInstance
    → Option TruthTable
table_of_instance names rec design inst = option_and_then (λ ty.
    option_and_then (λ lut. table_of names lut inst) (lut_of_type rec ty)) (type_of design inst)

-- the place of the first entry of a key
abbrev pub entry_place : List Entry → (key : ℕ) → Option ℕ
entry_place entries key = position (λ e. nat_eq e.key key) entries

-- What a table of texts that were read keeps: the bits of a text as the INIT of a LUT of so many
-- inputs.
abbrev pub IsRead : List Text → FirstByKey (Option ℕ) → Type 0
IsRead names read = (inputs text : ℕ) → IsReadAs (value_at read (key 0 inputs text)) inputs text
  where
    IsReadAs : Option (Option ℕ) → ℕ → ℕ → Type 0
    IsReadAs None inputs text = Unit {0}
    IsReadAs (Some bits) inputs text = bits ≡ init_number names inputs (values.Text text)

-- a LUT type has 1 to 6 inputs
pub record HasFewInputs (lut : LutCell) : Type 0 where
  pub some : 1 ≤ length lut.input_pins
  pub few : length lut.input_pins ≤ 6
