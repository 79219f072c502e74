-- What is so of a design and of a device that were read: what flattening asks of them, and that they
-- and a flat design stay named as names are added.
use Rattle.std.specs.Prelude.{◌≤◌, ℕ, List, length}
use Rattle.ix_message.specs.Shape.{Text}
use Rattle.ix_rec.specs.declared.device.DeviceRec.{DeviceRec}
use Rattle.ix_rec.specs.declared.netlist.NetlistRec.{NetlistRec}
use Rattle.ix_device_read.specs.Named.{DeviceNamed}
use Rattle.ix_logic_read.specs.Record.{IsNetlistNamed}
use Rattle.ix_strings.specs.Names.{KeepsNumbers}
use Rattle.ix_rec.specs.declared.flow.Flat.{Flat}
use Rattle.ix_flat.specs.Range.{IsNamed}
use Rattle.ix_flat.specs.Whole.{IsWhole}
use Rattle.ix_hierarchy.specs.Fits.{AreInputsNamed, NetlistFits}

abbrev pub ReadNetlistsFit : Type 0
ReadNetlistsFit = (names : List Text) (design : NetlistRec) → IsNetlistNamed names design
    → NetlistFits (length names) design

abbrev pub ReadDevicesFit : Type 0
ReadDevicesFit = (names : ℕ) (rec : DeviceRec) → DeviceNamed names rec → AreInputsNamed names rec

-- Where each name keeps its number, there are no fewer names.
abbrev pub NamesAreNoFewer : Type 0
NamesAreNoFewer = (old new : List Text) → KeepsNumbers old new → length old ≤ length new

-- Names of a device are names of a longer table too.
abbrev pub DevicesStayNamed : Type 0
DevicesStayNamed = (old new : List Text) (rec : DeviceRec) → KeepsNumbers old new
    → DeviceNamed (length old) rec → DeviceNamed (length new) rec

-- So are names of a flat design, and a whole one stays whole.
abbrev pub FlatsStayNamed : Type 0
FlatsStayNamed = (old new : List Text) (flat : Flat) → KeepsNumbers old new
    → IsNamed (length old) flat → IsNamed (length new) flat

abbrev pub FlatsStayWhole : Type 0
FlatsStayWhole = (old new : List Text) (rec : DeviceRec) (flat : Flat) → KeepsNumbers old new
    → IsWhole old rec flat → IsWhole new rec flat
