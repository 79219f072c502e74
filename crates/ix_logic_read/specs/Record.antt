-- What a logical netlist says: its data, and what its pointers lead to, with names as texts.
use Rattle.std.specs.Prelude.{◌≡◌, ℕ, ◌<◌, List, [], ◌∷◌, map, length, Bool, if◌then◌else◌}
use Rattle.std.specs.Prelude.{Contains, Some, option_map, slice_get, unwrap_or}
use Rattle.std.specs.List.{All}
use Rattle.ix_device_read.specs.Numbers.{direction_number}
use Rattle.ix_message.specs.Names.{Datum, the_number, the_text}
use Rattle.ix_message.specs.Netlist.{entry, cell_instance, cell_declaration, port_instance, net}
use Rattle.ix_message.specs.Netlist.{cell, port, netlist}
use Rattle.ix_message.specs.Shape.{Text, Value}
use Rattle.ix_message_write.specs.Table.{name_text}
use Rattle.ix_rec.specs.declared.netlist.Cell.{Cell}
use Rattle.ix_rec.specs.declared.netlist.CellDeclaration.{CellDeclaration}
use Rattle.ix_rec.specs.declared.netlist.CellInstance.{CellInstance}
use Rattle.ix_rec.specs.declared.netlist.Entry.{Entry}
use Rattle.ix_rec.specs.declared.netlist.Net.{Net}
use Rattle.ix_rec.specs.declared.netlist.NetlistRec.{NetlistRec}
use Rattle.ix_rec.specs.declared.netlist.Port.{Port}
use Rattle.ix_rec.specs.declared.netlist.PortIndexing.{PortIndexing}
use Rattle.ix_rec.specs.declared.netlist.PortIndexing.TheVariants.{SingleBit, Idx}
use Rattle.ix_rec.specs.declared.netlist.PortInstance.{PortInstance}
use Rattle.ix_rec.specs.declared.netlist.PortKind.{PortKind}
use Rattle.ix_rec.specs.declared.netlist.PortKind.TheVariants.{Bit, Bus}
use Rattle.ix_rec.specs.declared.netlist.PortOwner.{PortOwner}
use Rattle.ix_rec.specs.declared.netlist.PortOwner.TheVariants.{ExtPort, Inst}
use Rattle.ix_rec.specs.declared.netlist.PropertyMap.{PropertyMap}
use Rattle.ix_rec.specs.declared.netlist.PropertyValue.{PropertyValue}
use Rattle.ix_rec.specs.declared.netlist.PropertyValue.TheVariants.{Text as IsTextValue, Int}
use Rattle.ix_rec.specs.declared.netlist.PropertyValue.TheVariants.{Bool as IsBoolValue}

abbrev pub named : List Text → ℕ → Datum
named names id = the_text (name_text names id)

abbrev pub flag_number : Bool → ℕ
flag_number b = if b then 1 else 0

-- a property's value by its tag: a text, a number, a truth value
abbrev pub value_number : PropertyValue → ℕ
value_number (IsTextValue id) = 0
value_number (Int n) = 1
value_number (IsBoolValue b) = 2

abbrev pub value_datum : List Text → PropertyValue → Datum
value_datum names (IsTextValue id) = named names id
value_datum names (Int n) = the_number n
value_datum names (IsBoolValue b) = the_number (flag_number b)

abbrev pub entry_record : List Text → Entry → Value Datum entry
entry_record names e = (
  named names e.key ∷ the_number (value_number e.value) ∷ value_datum names e.value ∷ [],
  tt,
)

abbrev pub properties_record : List Text → PropertyMap → List (Value Datum entry)
properties_record names p = map (entry_record names) p.entries

abbrev pub cell_instance_record : List Text → CellInstance → Value Datum cell_instance
cell_instance_record names i = (
  named names i.name ∷ the_number i.cell ∷ [],
  (properties_record names i.prop_map, tt),
)

abbrev pub cell_declaration_record : List Text → CellDeclaration → Value Datum cell_declaration
cell_declaration_record names d = (named names d.name ∷ [], (map (λ p. the_number p) d.ports, tt))

abbrev pub bus_number : PortIndexing → ℕ
bus_number SingleBit = 0
bus_number Idx = 1

abbrev pub owner_number : PortOwner → ℕ
owner_number ExtPort = 0
owner_number (Inst i) = 1

-- the cell itself has no instance, and 0 is written
abbrev pub owner_instance : PortOwner → ℕ
owner_instance ExtPort = 0
owner_instance (Inst i) = i

abbrev pub port_instance_record : PortInstance → Value Datum port_instance
port_instance_record p = (
  the_number p.port ∷ the_number (bus_number p.bus) ∷ the_number p.idx
      ∷ the_number (owner_number p.owner) ∷ the_number (owner_instance p.owner) ∷ [],
  tt,
)

abbrev pub net_record : List Text → Net → Value Datum net
net_record names n = (named names n.name ∷ [], (map port_instance_record n.port_insts, tt))

abbrev pub cell_record : List Text → Cell → Value Datum cell
cell_record names c = (
  the_number c.index ∷ [],
  (map (λ i. the_number i) c.insts, (map (net_record names) c.nets, tt)),
)

abbrev pub port_kind_number : PortKind → ℕ
port_kind_number Bit = 0
port_kind_number Bus = 1

abbrev pub port_record : List Text → Port → Value Datum port
port_record names p = (
  named names p.name ∷ the_number (direction_number p.dir)
      ∷ the_number (port_kind_number p.kind) ∷ the_number p.bus_start ∷ the_number p.bus_end ∷ [],
  (properties_record names p.prop_map, tt),
)

abbrev pub netlist_record : List Text → NetlistRec → Value Datum netlist
netlist_record names n = (
  [],
  (
    name_text names n.name,
    (
      properties_record names n.prop_map,
      (
        cell_instance_record names n.top_inst,
        (
          map (cell_declaration_record names) n.cell_decls,
          (
            map (port_record names) n.port_list,
            (
              map (cell_instance_record names) n.inst_list,
              (map (cell_record names) n.cell_list, tt),
            ),
          ),
        ),
      ),
    ),
  ),
)

-- The names in a record are names of the run, and its indexes lead into its lists.

abbrev pub IsName : List Text → ℕ → Type 0
IsName names id = id < length names

abbrev pub IsValueNamed : List Text → PropertyValue → Type 0
IsValueNamed names (IsTextValue id) = IsName names id
IsValueNamed names (Int n) = Unit {0}
IsValueNamed names (IsBoolValue b) = Unit {0}

pub record IsEntryNamed (names : List Text) (e : Entry) : Type 0 where
  pub key : IsName names e.key
  pub value : IsValueNamed names e.value

pub record IsInstanceNamed (names : List Text) (decls : ℕ) (i : CellInstance) : Type 0 where
  pub name : IsName names i.name
  pub cell : i.cell < decls
  pub prop_map : All (IsEntryNamed names) i.prop_map.entries

pub record IsDeclarationNamed (names : List Text) (port_count : ℕ)
    (d : CellDeclaration) : Type 0 where
  pub name : IsName names d.name
  pub ports : All (λ p. p < port_count) d.ports

abbrev pub IsOwnerWithin : ℕ → PortOwner → Type 0
IsOwnerWithin insts ExtPort = Unit {0}
IsOwnerWithin insts (Inst i) = i < insts

pub record IsPortInstanceWithin (ports insts : ℕ) (p : PortInstance) : Type 0 where
  pub port : p.port < ports
  pub owner : IsOwnerWithin insts p.owner

pub record IsNetNamed (names : List Text) (ports insts : ℕ) (n : Net) : Type 0 where
  pub name : IsName names n.name
  pub port_insts : All (IsPortInstanceWithin ports insts) n.port_insts

pub record IsCellNamed (names : List Text) (decls port_count inst_count : ℕ)
    (c : Cell) : Type 0 where
  pub index : c.index < decls
  pub insts : All (λ i. i < inst_count) c.insts
  pub nets : All (IsNetNamed names port_count inst_count) c.nets

pub record IsPortNamed (names : List Text) (p : Port) : Type 0 where
  pub name : IsName names p.name
  pub prop_map : All (IsEntryNamed names) p.prop_map.entries

-- the ports of a declaration, in its order
abbrev pub ports_of : NetlistRec → (decl : ℕ) → List ℕ
ports_of n decl = unwrap_or (option_map (λ d. d.ports) (slice_get n.cell_decls decl)) []

-- a port is one of the owner's declaration: that of the cell, or of the instance
abbrev pub IsPortOf : NetlistRec → (own : ℕ) → PortOwner → (port : ℕ) → Type 0
IsPortOf n own ExtPort port = Contains (ports_of n own) port
IsPortOf n own (Inst i) port = (inst : CellInstance) × (slice_get n.inst_list i ≡ Some inst)
    × Contains (ports_of n inst.cell) port

-- each port that a net of a cell joins is one of its owner's declaration
abbrev pub AreOwnersPorts : NetlistRec → Cell → Type 0
AreOwnersPorts n c = All (λ (net : Net). All (λ p. IsPortOf n c.index p.owner p.port)
    net.port_insts) c.nets

pub record IsNetlistNamed (names : List Text) (n : NetlistRec) : Type 0 where
  pub name : IsName names n.name
  pub prop_map : All (IsEntryNamed names) n.prop_map.entries
  pub top_inst : IsInstanceNamed names (length n.cell_decls) n.top_inst
  pub cell_decls : All (IsDeclarationNamed names (length n.port_list)) n.cell_decls
  pub port_list : All (IsPortNamed names) n.port_list
  pub inst_list : All (IsInstanceNamed names (length n.cell_decls)) n.inst_list
  pub cell_list : All (IsCellNamed names (length n.cell_decls) (length n.port_list)
      (length n.inst_list)) n.cell_list
  pub owners_ports : All (AreOwnersPorts n) n.cell_list
