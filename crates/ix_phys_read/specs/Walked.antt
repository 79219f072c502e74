-- The structs of a physical netlist that are counted.
use Rattle.std.specs.Prelude.{List, [], ◌∷◌}
use Rattle.ix_message.specs.Phys.{pin_mapping, cell_placement, phys_net, site_instance, property}
use Rattle.ix_message.specs.Phys.{phys_netlist, segment}
use Rattle.ix_message.specs.Shape.{Struct, struct_of, branches, no_more}

-- a route branch as a struct of its own
abbrev pub route_branch : Struct
route_branch = struct_of "RouteBranch" segment (branches "branches" "RouteBranch" segment no_more)

-- each with a place among the counts
abbrev pub counted_structs : List Struct
counted_structs = pin_mapping ∷ cell_placement ∷ phys_net ∷ site_instance ∷ property
    ∷ phys_netlist ∷ route_branch ∷ []
