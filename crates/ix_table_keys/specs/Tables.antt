-- The table of a LUT element.
use Rattle.std.specs.Prelude.{◌≡◌, List, length, Option, Some, None}
use Rattle.ix_message.specs.Shape.{Text}
use Rattle.ix_num.specs.Numbers.{NameNumber}
use Rattle.ix_rec.specs.declared.device.DeviceRec.{DeviceRec}
use Rattle.ix_rec.specs.declared.phys.Phys.{Phys}
use Rattle.ix_lut.specs.Places.{ElementBits}
use Rattle.ix_legal.specs.Names.{IsNamed}
use Rattle.ix_legal.specs.Sites.{ElementNumber}
use Rattle.ix_legal.specs.Spots.{Everywhere}
use Rattle.ix_legal.specs.TableKeys.{HasTable}
use Rattle.ix_table_keys.specs.Places.{ArePlacesByName, key_of}
use Rattle.ix_table_keys.specs.declared.tables.TableKeys.{TableKeys}

-- the netlist keeps L1 on a device
abbrev pub IsNamedThere : List Text → Phys → Type 0
IsNamedThere names phys = (rec : DeviceRec) × Everywhere (IsNamed names rec phys)

-- the element has a table of these bits, and no table of others
pub record IsOnlyTable (names : List Text) (phys : Phys) (site : NameNumber)
    (element : ElementNumber) (bits : ElementBits) : Type 0 where
  pub has : HasTable names phys site element bits
  pub one : (other : ElementBits) → HasTable names phys site element other → other ≡ bits

-- what is told of an element: the bits of its table, or that it has none
abbrev pub TellsTable : List Text → Phys → (site : NameNumber) → ElementNumber
    → Option ElementBits → Type 0
TellsTable names phys site element (Some bits) = IsOnlyTable names phys site element bits
TellsTable names phys site element None = (bits : ElementBits)
    → ¬ HasTable names phys site element bits

-- the tables of a netlist
abbrev pub AreTableKeys : List Text → Phys → TableKeys → Type 0
AreTableKeys names phys tables =
    ArePlacesByName key_of phys.properties (length names) tables.properties
