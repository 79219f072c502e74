-- What the reader of logical netlists promises of a record is what is asked of its hierarchy.
use Rattle.std.proofs.Common.{◌<◌, ℕ, List, [], ◌∷◌, length}
use Rattle.std.specs.Prelude.{slice_index_or}
use Rattle.std.specs.List.{All, AllByRecursion}
use Rattle.std.proofs.lemmas.List.Elements.{recursion_from_All}
use Rattle.ix_message.specs.Shape.{Text}
use Rattle.ix_rec.specs.declared.netlist.Cell.{Cell}
use Rattle.ix_rec.specs.declared.netlist.CellDeclaration.{CellDeclaration}
use Rattle.ix_rec.specs.declared.netlist.CellInstance.{CellInstance}
use Rattle.ix_rec.specs.declared.netlist.Entry.{Entry}
use Rattle.ix_rec.specs.declared.netlist.Net.{Net}
use Rattle.ix_rec.specs.declared.netlist.NetlistRec.{NetlistRec}
use Rattle.ix_rec.specs.declared.netlist.Port.{Port}
use Rattle.ix_rec.specs.declared.netlist.PortOwner.{PortOwner}
use Rattle.ix_rec.specs.declared.netlist.PortOwner.TheVariants.{ExtPort, Inst}
use Rattle.ix_rec.specs.declared.netlist.PropertyValue.{PropertyValue}
use Rattle.ix_rec.specs.declared.netlist.PropertyValue.TheVariants as values
use Rattle.ix_logic_read.specs.Record as reader
use Rattle.ix_hierarchy.specs.Fits.{CellFits, DeclarationFits, InstanceFits, NetFits, NetlistFits}
use Rattle.ix_rec.specs.declared.device.DeviceRec.{DeviceRec}
use Rattle.ix_rec.specs.declared.device.LutCell.{LutCell}
use Rattle.ix_device_read.specs.Named.{DeviceNamed, LutCellNamed}
use Rattle.ix_hierarchy.specs.Fits.{AreInputsNamed, IsEntryNamed, IsPortOf, IsValueNamed, PortInstanceFits}

-- what follows for each item of a list
each : {X : Type 0} (P Q : X → Type 0) → ((x : X) → P x → Q x) → (xs : List X) → All P xs
    → AllByRecursion Q xs
each P Q from xs all =
    recursion_from_All Q xs (λ k d lt. from (slice_index_or xs k d) (all k d lt))

value_fits : (names : List Text) (value : PropertyValue) → reader.IsValueNamed names value
    → IsValueNamed (length names) value
value_fits names (values.Text text) named = named
value_fits names (values.Int n) named = named
value_fits names (values.Bool b) named = named

entry_fits : (names : List Text) (entry : Entry) → reader.IsEntryNamed names entry
    → IsEntryNamed (length names) entry
entry_fits names entry named = record {
  key = named.key;
  value = value_fits names entry.value named.value;
}

inst_fits : (names : List Text) (design : NetlistRec) (inst : CellInstance)
    → reader.IsInstanceNamed names (length design.cell_decls) inst
    → InstanceFits (length names) design inst
inst_fits names design inst named = record {
  name = named.name;
  cell = named.cell;
  properties = each (reader.IsEntryNamed names) (IsEntryNamed (length names)) (entry_fits names)
      inst.prop_map.entries named.prop_map;
}

declaration_fits : (names : List Text) (design : NetlistRec) (declared : CellDeclaration)
    → reader.IsDeclarationNamed names (length design.port_list) declared
    → DeclarationFits (length names) design declared
declaration_fits names design declared named = record {
  name = named.name;
  ports = recursion_from_All (λ port. port < length design.port_list) declared.ports named.ports;
}

port_fits : (design : NetlistRec) (own : ℕ) (owner : PortOwner) (port : ℕ)
    → reader.IsPortOf design own owner port → IsPortOf design own owner port
port_fits design own ExtPort port is = is
port_fits design own (Inst i) port is = is

net_fits : (names : List Text) (design : NetlistRec) (own : ℕ) (net : Net)
    → reader.IsNetNamed names (length design.port_list) (length design.inst_list) net
    → All (λ p. reader.IsPortOf design own p.owner p.port) net.port_insts
    → NetFits (length names) design own net
net_fits names design own net named owned = record {
  name = named.name;
  named = recursion_from_All (PortInstanceFits design own) net.port_insts (λ k d lt.
      let pin = slice_index_or net.port_insts k d in
      ((named.port_insts k d lt).port, port_fits design own pin.owner pin.port (owned k d lt)));
}

cell_fits : (names : List Text) (design : NetlistRec) (cell : Cell)
    → reader.IsCellNamed names (length design.cell_decls) (length design.port_list)
    (length design.inst_list) cell → reader.AreOwnersPorts design cell
    → CellFits (length names) design cell
cell_fits names design cell named owned = record {
  index = named.index;
  insts = recursion_from_All (λ i. i < length design.inst_list) cell.insts named.insts;
  nets = recursion_from_All (NetFits (length names) design cell.index) cell.nets (λ k d lt.
      net_fits names design cell.index (slice_index_or cell.nets k d) (named.nets k d lt)
      (owned k d lt));
}

pub named_fits : (names : List Text) (design : NetlistRec) → reader.IsNetlistNamed names design
    → NetlistFits (length names) design
named_fits names design named = record {
  top = inst_fits names design design.top_inst named.top_inst;
  declarations = each (reader.IsDeclarationNamed names (length design.port_list))
      (DeclarationFits (length names) design) (declaration_fits names design) design.cell_decls
      named.cell_decls;
  ports = each (reader.IsPortNamed names) (λ (port : Port). port.name < length names)
      (λ port is. is.name) design.port_list named.port_list;
  insts = each (reader.IsInstanceNamed names (length design.cell_decls))
      (InstanceFits (length names) design) (inst_fits names design) design.inst_list
      named.inst_list;
  cells = recursion_from_All (CellFits (length names) design) design.cell_list (λ k d lt.
      cell_fits names design (slice_index_or design.cell_list k d) (named.cell_list k d lt)
      (named.owners_ports k d lt));
}

-- and what the reader of devices promises, of inputs of LUT types
all_more : {A : Type 0} (P Q : A → Type 0) → ((x : A) → P x → Q x) → (xs : List A)
    → AllByRecursion P xs → AllByRecursion Q xs
all_more P Q from [] all = tt
all_more P Q from (x ∷ xs) all = (from x all.0, all_more P Q from xs all.1)

pub inputs_named : (names : ℕ) (rec : DeviceRec) → DeviceNamed names rec → AreInputsNamed names rec
inputs_named names rec named = all_more (LutCellNamed names)
    (λ (lut : LutCell). AllByRecursion (λ pin. pin < names) lut.input_pins)
    (λ lut is. is.input_pins) rec.lut_definitions.lut_cells named.lut_definitions.lut_cells
