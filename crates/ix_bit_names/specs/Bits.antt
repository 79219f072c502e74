-- The written names of port bits as numbers of names.
use Rattle.std.specs.Prelude.{◌≡◌, ◌+◌, ◌<◌, ◌≤◌, ℕ, List, length, slice_get, Some}
use Rattle.ix_keys.specs.Keys.{key}
use Rattle.ix_strings.specs.Names.{KeepsNumbers}
use Rattle.ix_first.specs.First.{value_at}
use Rattle.ix_first.specs.declared.by_key.FirstByKey.{FirstByKey}
use Rattle.ix_message.specs.Shape.{Text}
use Rattle.ix_rec.specs.declared.netlist.NetlistRec.{NetlistRec}
use Rattle.ix_rec.specs.declared.netlist.Port.{Port}
use Rattle.ix_hierarchy.specs.declared.row.Row.{Row}
use Rattle.ix_hierarchy.specs.Hierarchy.{PortBit, written_bit}
use Rattle.ix_hierarchy.specs.Lists.{bit_in}

-- the number is that of the bit's written name
abbrev pub NamesBit : List Text → NetlistRec → PortBit → (name : ℕ) → Type 0
NamesBit names design bit name = (text : Text) × (slice_get names name ≡ Some text)
    × (written_bit names design bit ≡ Some text)

-- what the table has is right
abbrev pub AreNumbers : List Text → NetlistRec → FirstByKey ℕ → Type 0
AreNumbers names design table = (port index name : ℕ)
    → value_at table (key port index 0) ≡ Some name
    → NamesBit names design (record { port = port; index = index }) name

-- the numbers of the first rows' names
abbrev pub AreNames : List Text → NetlistRec → List Row → (written : List ℕ) → Type 0
AreNames names design rows written = (k : ℕ) (row : Row) (name : ℕ) → slice_get rows k ≡ Some row
    → slice_get written k ≡ Some name → NamesBit names design (bit_in row) name

-- the ports' names are among the names
abbrev pub ArePortsNamed : List Text → NetlistRec → Type 0
ArePortsNamed names design = (k : ℕ) (port : Port) → slice_get design.port_list k ≡ Some port
    → port.name < length names

-- names are kept, and as many may be added as the count falls
pub record Grows (before after : List Text) (left_before left_after : ℕ) : Type 0 where
  pub keeps : KeepsNumbers before after
  pub counted : length after + left_after ≤ length before + left_before
