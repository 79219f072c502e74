-- The structs of a logical netlist by their numbers: inner structs before outer ones, the root
-- last.
use Rattle.std.specs.Prelude.{List, [], ◌∷◌}
use Rattle.ix_message.specs.Netlist.{entry, cell_instance, cell_declaration, port_instance, net}
use Rattle.ix_message.specs.Netlist.{cell, port, netlist}
use Rattle.ix_message.specs.Shape.{Struct}

abbrev pub netlist_structs : List Struct
netlist_structs = entry ∷ cell_instance ∷ cell_declaration ∷ port_instance ∷ net ∷ cell ∷ port
    ∷ netlist ∷ []
