-- What the numbers of a netlist's structs are asked against, and what its readers hold of it.
use Rattle.std.specs.Prelude.{ℕ, ◌%◌, ◌^◌, List, [], ◌∷◌, length, map}
use Rattle.ix_frame.specs.Objects.{u32_in}
use Rattle.ix_frame.specs.Sound.{sound_elements, sound_struct}
use Rattle.ix_frame.specs.Target.{Object, Elements}
use Rattle.ix_frame.specs.Views.{elements_of}
use Rattle.ix_message.specs.Indexes.{Entry, Lists, Step, entry_of, no_entry, only_table, steps}
use Rattle.ix_message.specs.Names.{Datum, record_of}
use Rattle.ix_message.specs.Netlist.{cell_declaration, cell_instance, netlist, port}
use Rattle.ix_message.specs.Shape.{Struct, Value}
use Rattle.ix_schema.specs.Said.{said, each_said}
use Rattle.ix_take.specs.Views.{table_of}
use Rattle.ix_logic_read.specs.declared.context.NetlistContext.{NetlistContext}
use Rattle.ix_logic_read.specs.declared.context.CellContext.{CellContext}

-- the structs of a list, as indexes ask them
unfoldable pub entries_said : (s : Struct) → Elements → List Entry
entries_said s l = map (entry_of s) (each_said (said s) l.count l 0)

-- the lists that indexes lead into, with a string table of this length
abbrev pub lists_with : ℕ → Elements → Elements → Elements → Lists
lists_with table decls ports insts = record {
  table = table;
  site_type_list = [];
  tile_type_list = [];
  wire_list = [];
  bel_pin_list = [];
  tile_wire_list = [];
  cell_decl_list = entries_said cell_declaration decls;
  port_list = entries_said port ports;
  instance_list = entries_said cell_instance insts;
}

unfoldable pub lists_in : NetlistContext → Lists
lists_in c = lists_with (length (table_of c.texts)) (elements_of c.decls) (elements_of c.ports)
    (elements_of c.insts)

-- what is asked of the cell around
abbrev pub cell_entry : CellContext → Entry
cell_entry c = record { row = c.decl ∷ []; lists = c.insts ∷ []; lengths = [] }

-- what a struct stands for, by the string table, and what its reading asks
abbrev pub made_in : (s : Struct) → NetlistContext → Value ℕ s → Value Datum s
made_in s c v = record_of (table_of c.texts) s v

abbrev pub asks_in : (s : Struct) → NetlistContext → Value ℕ s → List Step
asks_in s c v = steps s (lists_in c) [] v

-- The numbers of a port instance, and whether one of them fits.
abbrev pub pin_row : Object → List ℕ
pin_row o = u32_in o 0 ∷ u32_in o 1 % 2 ^ 16 ∷ u32_in o 2 ∷ u32_in o 3 % 2 ^ 16 ∷ u32_in o 4 ∷ []

abbrev pub pin_around : CellContext → List Entry
pin_around c = no_entry ∷ no_entry ∷ cell_entry c ∷ []

-- a struct of which nothing need be known
abbrev pub any_struct : Object → Type 0
any_struct o = Unit {0}

-- how many declarations, ports and instances there are
abbrev pub decls_in : NetlistContext → ℕ
decls_in c = length (lists_in c).cell_decl_list

abbrev pub ports_in : NetlistContext → ℕ
ports_in c = length (lists_in c).port_list

abbrev pub insts_in : NetlistContext → ℕ
insts_in c = length (lists_in c).instance_list

-- the structs of the list in the struct that is behind a pointer
abbrev pub boxed_list : Object → ℕ → Elements
boxed_list o slot = sound_elements (sound_struct o slot) 0

-- the numbers of a property
abbrev pub entry_row : Object → List ℕ
entry_row o = u32_in o 0 ∷ u32_in o 1 % 2 ^ 16 ∷ u32_in o 2 ∷ []

-- what is asked of the root, whose lists are those that indexes lead into
abbrev pub root_asks : NetlistContext → Value ℕ netlist → List Step
root_asks c v = steps netlist (only_table (length (table_of c.texts))) [] v
