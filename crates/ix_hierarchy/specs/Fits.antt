-- The numbers of a netlist's record are in its lists and among the names, and a port bit that a net
-- names is of a port of its owner's declaration.
use Rattle.std.specs.Prelude.{◌≡◌, ℕ, ◌<◌, length, slice_get, Some, Contains}
use Rattle.std.specs.List.{AllByRecursion}
use Rattle.ix_rec.specs.declared.netlist.Cell.{Cell}
use Rattle.ix_rec.specs.declared.netlist.CellDeclaration.{CellDeclaration}
use Rattle.ix_rec.specs.declared.netlist.CellInstance.{CellInstance}
use Rattle.ix_rec.specs.declared.netlist.Entry.{Entry}
use Rattle.ix_rec.specs.declared.netlist.Net.{Net}
use Rattle.ix_rec.specs.declared.netlist.NetlistRec.{NetlistRec}
use Rattle.ix_rec.specs.declared.netlist.Port.{Port}
use Rattle.ix_rec.specs.declared.netlist.PortInstance.{PortInstance}
use Rattle.ix_rec.specs.declared.netlist.PortOwner.{PortOwner}
use Rattle.ix_rec.specs.declared.netlist.PortOwner.TheVariants.{ExtPort, Inst}
use Rattle.ix_rec.specs.declared.netlist.PropertyValue.{PropertyValue}
use Rattle.ix_rec.specs.declared.netlist.PropertyValue.TheVariants as values
use Rattle.ix_rec.specs.declared.device.DeviceRec.{DeviceRec}
use Rattle.ix_rec.specs.declared.device.LutCell.{LutCell}
use Rattle.ix_hierarchy.specs.Hierarchy.{ports_of}

abbrev pub IsValueNamed : (names : ℕ) → PropertyValue → Type 0
IsValueNamed names (values.Text text) = text < names
IsValueNamed names (values.Int n) = Unit {0}
IsValueNamed names (values.Bool b) = Unit {0}

pub record IsEntryNamed (names : ℕ) (entry : Entry) : Type 0 where
  pub key : entry.key < names
  pub value : IsValueNamed names entry.value

pub record InstanceFits (names : ℕ) (design : NetlistRec) (inst : CellInstance) : Type 0 where
  pub name : inst.name < names
  pub cell : inst.cell < length design.cell_decls
  pub properties : AllByRecursion (IsEntryNamed names) inst.prop_map.entries

pub record DeclarationFits (names : ℕ) (design : NetlistRec) (declared : CellDeclaration) : Type 0
  where
    pub name : declared.name < names
    pub ports : AllByRecursion (λ port. port < length design.port_list) declared.ports

-- a port is one of the owner's declaration: that of the cell, or of the instance
abbrev pub IsPortOf : NetlistRec → (own : ℕ) → PortOwner → (port : ℕ) → Type 0
IsPortOf design own ExtPort port = Contains (ports_of design own) port
IsPortOf design own (Inst instance) port = (inst : CellInstance)
    × (slice_get design.inst_list instance ≡ Some inst) × Contains (ports_of design inst.cell) port

abbrev pub PortInstanceFits : NetlistRec → (own : ℕ) → PortInstance → Type 0
PortInstanceFits design own named =
    (named.port < length design.port_list) × IsPortOf design own named.owner named.port

pub record NetFits (names : ℕ) (design : NetlistRec) (own : ℕ) (net : Net) : Type 0 where
  pub name : net.name < names
  pub named : AllByRecursion (PortInstanceFits design own) net.port_insts

pub record CellFits (names : ℕ) (design : NetlistRec) (cell : Cell) : Type 0 where
  pub index : cell.index < length design.cell_decls
  pub insts : AllByRecursion (λ instance. instance < length design.inst_list) cell.insts
  pub nets : AllByRecursion (NetFits names design cell.index) cell.nets

pub record NetlistFits (names : ℕ) (design : NetlistRec) : Type 0 where
  pub top : InstanceFits names design design.top_inst
  pub declarations : AllByRecursion (DeclarationFits names design) design.cell_decls
  pub ports : AllByRecursion (λ (port : Port). port.name < names) design.port_list
  pub insts : AllByRecursion (InstanceFits names design) design.inst_list
  pub cells : AllByRecursion (CellFits names design) design.cell_list

-- the names of a device's LUT inputs are among so many
abbrev pub AreInputsNamed : (names : ℕ) → DeviceRec → Type 0
AreInputsNamed names rec = AllByRecursion
    (λ (lut : LutCell). AllByRecursion (λ pin. pin < names) lut.input_pins)
    rec.lut_definitions.lut_cells
