-- The logical netlist: each struct with its fields, the inner structs first.
use Rattle.std.specs.Prelude.{[], ◌∷◌}
use Rattle.ix_message.specs.Shape.{Struct, field, number, flag, nothing, choice, name, index}
use Rattle.ix_message.specs.Shape.{port_of_owner, bus_tag, bus_bit, instance_of_cell, by_tag}
use Rattle.ix_message.specs.Shape.{struct_of, no_more, text, numbers, struct, boxed, structs}
use Rattle.ix_message.specs.Shape.{string_table, nowhere, cell_decls, ports, instances}

-- tag: a text value, an integer value, a Bool value
abbrev pub entry : Struct
entry = struct_of "Entry"
    (field "key" name ∷ field "tag" (choice 3)
    ∷ field "value" (by_tag 1 0 name (by_tag 1 1 number flag)) ∷ [])
    no_more

abbrev pub cell_instance : Struct
cell_instance = struct_of "CellInstance"
    (field "name" name ∷ field "cell" (index cell_decls) ∷ [])
    (boxed "propMap" "PropertyMap" "entries" entry no_more)

abbrev pub cell_declaration : Struct
cell_declaration = struct_of "CellDeclaration"
    (field "name" name ∷ [])
    (numbers "ports" nowhere (index ports) no_more)

-- bus: a single bit, the bit idx of a bus; owner: the cell itself, an instance
abbrev pub port_instance : Struct
port_instance = struct_of "PortInstance"
    (field "port" port_of_owner ∷ field "bus_tag" bus_tag ∷ field "idx" bus_bit
    ∷ field "owner_tag" (choice 2) ∷ field "inst" (by_tag 3 1 instance_of_cell nothing) ∷ [])
    no_more

abbrev pub net : Struct
net = struct_of "Net" (field "name" name ∷ []) (structs "portInsts" nowhere port_instance no_more)

abbrev pub cell : Struct
cell = struct_of "Cell"
    (field "index" (index cell_decls) ∷ [])
    (numbers "insts" nowhere (index instances) (structs "nets" nowhere net no_more))

-- dir: input, output, inout; kind: a bit, a bus
abbrev pub port : Struct
port = struct_of "Port"
    (field "name" name ∷ field "dir" (choice 3) ∷ field "kind_tag" (choice 2)
    ∷ field "busStart" number ∷ field "busEnd" number ∷ [])
    (boxed "propMap" "PropertyMap" "entries" entry no_more)

abbrev pub netlist : Struct
netlist = struct_of "Netlist"
    []
    (text "name"
    (boxed "propMap" "PropertyMap" "entries" entry
    (struct "topInst" cell_instance
    (string_table "strList"
    (structs "cellDecls" cell_decls cell_declaration
    (structs "portList" ports port
    (structs "instList" instances cell_instance
    (structs "cellList" nowhere cell no_more))))))))
