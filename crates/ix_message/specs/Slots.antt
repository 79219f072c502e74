-- The constants of the code are the slots of the tables.
use Prim.Native.String.{String}
use Rattle.std.specs.Prelude.{ℕ, zero, suc, ◌+◌, ◌/◌, List, [], ◌∷◌, length, Bool, false, ◌&&◌}
use Rattle.std.specs.Prelude.{◌==◌, codes}
use Rattle.std.specs.List.{list_all}
use Rattle.ix_message.specs.declared.slots.entry.TheConstants as entry_slots
use Rattle.ix_message.specs.declared.slots.cell_instance.TheConstants as cell_instance_slots
use Rattle.ix_message.specs.declared.slots.cell_declaration.TheConstants as cell_declaration_slots
use Rattle.ix_message.specs.declared.slots.port_instance.TheConstants as port_instance_slots
use Rattle.ix_message.specs.declared.slots.net.TheConstants as net_slots
use Rattle.ix_message.specs.declared.slots.cell.TheConstants as cell_slots
use Rattle.ix_message.specs.declared.slots.port.TheConstants as port_slots
use Rattle.ix_message.specs.declared.slots.netlist.TheConstants as netlist_slots
use Rattle.ix_message.specs.declared.slots.pin_mapping.TheConstants as pin_mapping_slots
use Rattle.ix_message.specs.declared.slots.cell_placement.TheConstants as cell_placement_slots
use Rattle.ix_message.specs.declared.slots.phys_net.TheConstants as phys_net_slots
use Rattle.ix_message.specs.declared.slots.site_instance.TheConstants as site_instance_slots
use Rattle.ix_message.specs.declared.slots.property.TheConstants as property_slots
use Rattle.ix_message.specs.declared.slots.phys_netlist.TheConstants as phys_netlist_slots
use Rattle.ix_message.specs.declared.slots.packed_cell.TheConstants as packed_cell_slots
use Rattle.ix_message.specs.declared.slots.packed_cluster.TheConstants as packed_cluster_slots
use Rattle.ix_message.specs.declared.slots.packed.TheConstants as packed_slots
use Rattle.ix_message.specs.declared.slots.route_branch.TheConstants as route_branch_slots
use Rattle.ix_message.specs.declared.slots.property_map.TheConstants as property_map_slots
use Rattle.ix_message.specs.Shape.{Field, Struct, Pointers, struct_of, no_more, text, texts}
use Rattle.ix_message.specs.Shape.{numbers, struct, struct_or_none, boxed, structs, branches}
use Rattle.ix_message.specs.Shape.{string_table, unread}
use Rattle.ix_message.specs.Names.{same_text}
use Rattle.ix_message.specs.Netlist.{entry, cell_instance, cell_declaration, port_instance, net}
use Rattle.ix_message.specs.Netlist.{cell, port, netlist}
use Rattle.ix_message.specs.Phys.{pin_mapping, cell_placement, phys_net, site_instance, property}
use Rattle.ix_message.specs.Phys.{phys_netlist, segment}
use Rattle.ix_message.specs.Packed.{packed_cell, packed_cluster, packed}

abbrev pub same_name : String → String → Bool
same_name a b = same_text (codes a) (codes b)

abbrev pub slot_among : List Field → String → ℕ → Bool
slot_among [] called slot = false
slot_among (f ∷ fs) called zero = same_name f.called called
slot_among (f ∷ fs) called (suc slot) = slot_among fs called slot

-- the names of the pointer fields in slot order
abbrev pub names_of : Pointers → List String
names_of no_more = []
names_of (text c ps) = c ∷ names_of ps
names_of (texts c ps) = c ∷ names_of ps
names_of (numbers c list kind ps) = c ∷ names_of ps
names_of (struct c s ps) = c ∷ names_of ps
names_of (struct_or_none c s ps) = c ∷ names_of ps
names_of (boxed c kind inner s ps) = c ∷ names_of ps
names_of (structs c list s ps) = c ∷ names_of ps
names_of (branches c kind fields ps) = c ∷ names_of ps
names_of (string_table c ps) = c ∷ names_of ps
names_of (unread c ps) = c ∷ names_of ps

abbrev pub name_among : List String → String → ℕ → Bool
name_among [] called slot = false
name_among (c ∷ cs) called zero = same_name c called
name_among (c ∷ cs) called (suc slot) = name_among cs called slot

-- the field is in this slot of the struct's data section, or of its pointer section
abbrev pub data_slot : Struct → String → ℕ → Bool
data_slot (struct_of kind fields ps) called slot = slot_among fields called slot

abbrev pub pointer_slot : Struct → String → ℕ → Bool
pointer_slot (struct_of kind fields ps) called slot = name_among (names_of ps) called slot

-- the struct has sections of these sizes
abbrev pub sections : Struct → ℕ → ℕ → Bool
sections (struct_of kind fields ps) data_words pointers
    = (data_words == (length fields + 1) / 2) && pointers == length (names_of ps)

-- Each constant is the slot that the tables give its field. A branch and a property map have no
-- table of their own: a branch has the fields of a segment and one pointer, to the branches below
-- it; a property map has one pointer, to its entries.
abbrev pub slots_agree : Bool
slots_agree = list_all (λ agrees. agrees) (
    data_slot entry "key" entry_slots.KEY ∷
    data_slot entry "tag" entry_slots.TAG ∷
    data_slot entry "value" entry_slots.VALUE ∷
    sections entry entry_slots.DATA_WORDS entry_slots.POINTERS ∷
    data_slot cell_instance "name" cell_instance_slots.NAME ∷
    data_slot cell_instance "cell" cell_instance_slots.CELL ∷
    pointer_slot cell_instance "propMap" cell_instance_slots.PROP_MAP ∷
    sections cell_instance cell_instance_slots.DATA_WORDS cell_instance_slots.POINTERS ∷
    data_slot cell_declaration "name" cell_declaration_slots.NAME ∷
    pointer_slot cell_declaration "ports" cell_declaration_slots.PORTS ∷
    sections cell_declaration cell_declaration_slots.DATA_WORDS cell_declaration_slots.POINTERS ∷
    data_slot port_instance "port" port_instance_slots.PORT ∷
    data_slot port_instance "bus_tag" port_instance_slots.BUS_TAG ∷
    data_slot port_instance "idx" port_instance_slots.IDX ∷
    data_slot port_instance "owner_tag" port_instance_slots.OWNER_TAG ∷
    data_slot port_instance "inst" port_instance_slots.INST ∷
    sections port_instance port_instance_slots.DATA_WORDS port_instance_slots.POINTERS ∷
    data_slot net "name" net_slots.NAME ∷
    pointer_slot net "portInsts" net_slots.PORT_INSTS ∷
    sections net net_slots.DATA_WORDS net_slots.POINTERS ∷
    data_slot cell "index" cell_slots.INDEX ∷
    pointer_slot cell "insts" cell_slots.INSTS ∷
    pointer_slot cell "nets" cell_slots.NETS ∷
    sections cell cell_slots.DATA_WORDS cell_slots.POINTERS ∷
    data_slot port "name" port_slots.NAME ∷
    data_slot port "dir" port_slots.DIR ∷
    data_slot port "kind_tag" port_slots.KIND_TAG ∷
    data_slot port "busStart" port_slots.BUS_START ∷
    data_slot port "busEnd" port_slots.BUS_END ∷
    pointer_slot port "propMap" port_slots.PROP_MAP ∷
    sections port port_slots.DATA_WORDS port_slots.POINTERS ∷
    pointer_slot netlist "name" netlist_slots.NAME ∷
    pointer_slot netlist "propMap" netlist_slots.PROP_MAP ∷
    pointer_slot netlist "topInst" netlist_slots.TOP_INST ∷
    pointer_slot netlist "strList" netlist_slots.STR_LIST ∷
    pointer_slot netlist "cellDecls" netlist_slots.CELL_DECLS ∷
    pointer_slot netlist "portList" netlist_slots.PORT_LIST ∷
    pointer_slot netlist "instList" netlist_slots.INST_LIST ∷
    pointer_slot netlist "cellList" netlist_slots.CELL_LIST ∷
    sections netlist netlist_slots.DATA_WORDS netlist_slots.POINTERS ∷
    data_slot pin_mapping "cellPin" pin_mapping_slots.CELL_PIN ∷
    data_slot pin_mapping "bel" pin_mapping_slots.BEL ∷
    data_slot pin_mapping "belPin" pin_mapping_slots.BEL_PIN ∷
    sections pin_mapping pin_mapping_slots.DATA_WORDS pin_mapping_slots.POINTERS ∷
    data_slot cell_placement "cellName" cell_placement_slots.CELL_NAME ∷
    data_slot cell_placement "type" cell_placement_slots.TYPE ∷
    data_slot cell_placement "site" cell_placement_slots.SITE ∷
    data_slot cell_placement "bel" cell_placement_slots.BEL ∷
    pointer_slot cell_placement "pinMap" cell_placement_slots.PIN_MAP ∷
    sections cell_placement cell_placement_slots.DATA_WORDS cell_placement_slots.POINTERS ∷
    data_slot phys_net "name" phys_net_slots.NAME ∷
    data_slot phys_net "type" phys_net_slots.TYPE ∷
    pointer_slot phys_net "sources" phys_net_slots.SOURCES ∷
    pointer_slot phys_net "stubs" phys_net_slots.STUBS ∷
    sections phys_net phys_net_slots.DATA_WORDS phys_net_slots.POINTERS ∷
    data_slot site_instance "site" site_instance_slots.SITE ∷
    data_slot site_instance "type" site_instance_slots.TYPE ∷
    sections site_instance site_instance_slots.DATA_WORDS site_instance_slots.POINTERS ∷
    data_slot property "key" property_slots.KEY ∷
    data_slot property "value" property_slots.VALUE ∷
    sections property property_slots.DATA_WORDS property_slots.POINTERS ∷
    pointer_slot phys_netlist "part" phys_netlist_slots.PART ∷
    pointer_slot phys_netlist "strList" phys_netlist_slots.STR_LIST ∷
    pointer_slot phys_netlist "placements" phys_netlist_slots.PLACEMENTS ∷
    pointer_slot phys_netlist "physNets" phys_netlist_slots.PHYS_NETS ∷
    pointer_slot phys_netlist "siteInsts" phys_netlist_slots.SITE_INSTS ∷
    pointer_slot phys_netlist "properties" phys_netlist_slots.PROPERTIES ∷
    sections phys_netlist phys_netlist_slots.DATA_WORDS phys_netlist_slots.POINTERS ∷
    data_slot packed_cell "cell" packed_cell_slots.CELL ∷
    data_slot packed_cell "bel" packed_cell_slots.BEL ∷
    sections packed_cell packed_cell_slots.DATA_WORDS packed_cell_slots.POINTERS ∷
    data_slot packed_cluster "siteType" packed_cluster_slots.SITE_TYPE ∷
    pointer_slot packed_cluster "cells" packed_cluster_slots.CELLS ∷
    sections packed_cluster packed_cluster_slots.DATA_WORDS packed_cluster_slots.POINTERS ∷
    pointer_slot packed "strList" packed_slots.STR_LIST ∷
    pointer_slot packed "clusters" packed_slots.CLUSTERS ∷
    sections packed packed_slots.DATA_WORDS packed_slots.POINTERS ∷
    slot_among segment "kind_tag" route_branch_slots.KIND_TAG ∷
    slot_among segment "first" route_branch_slots.FIRST ∷
    slot_among segment "second" route_branch_slots.SECOND ∷
    slot_among segment "third" route_branch_slots.THIRD ∷
    slot_among segment "forward" route_branch_slots.FORWARD ∷
    (route_branch_slots.BRANCHES == 0) ∷
    (route_branch_slots.DATA_WORDS == (length segment + 1) / 2) ∷
    (route_branch_slots.POINTERS == 1) ∷
    (property_map_slots.ENTRIES == 0) ∷
    (property_map_slots.DATA_WORDS == 0) ∷
    (property_map_slots.POINTERS == 1) ∷ [])
