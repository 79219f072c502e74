-- The physical netlist: each struct with its fields, the inner structs first.
use Rattle.std.specs.Prelude.{List, [], ◌∷◌}
use Rattle.ix_message.specs.Shape.{Struct, Field, field, flag, nothing, choice, name, by_tag}
use Rattle.ix_message.specs.Shape.{struct_of, no_more, text, structs, branches, string_table}
use Rattle.ix_message.specs.Shape.{nowhere}

abbrev pub pin_mapping : Struct
pin_mapping = struct_of "PinMapping" (field "cellPin" name ∷ field "bel" name ∷ field "belPin" name
    ∷ []) no_more

abbrev pub cell_placement : Struct
cell_placement = struct_of "CellPlacement"
    (field "cellName" name ∷ field "type" name ∷ field "site" name ∷ field "bel" name ∷ [])
    (structs "pinMap" nowhere pin_mapping no_more)

-- A branch's segment: a BEL pin (site, BEL, pin), a site pin (site, pin), a PIP (tile, wire0,
-- wire1) or a site PIP (site, BEL, input pin).
abbrev pub segment : List Field
segment = field "kind_tag" (choice 4) ∷ field "first" name ∷ field "second" name
    ∷ field "third" (by_tag 0 1 nothing name) ∷ field "forward" flag ∷ []

-- type: signal, gnd, vcc
abbrev pub phys_net : Struct
phys_net = struct_of "PhysNet"
    (field "name" name ∷ field "type" (choice 3) ∷ [])
    (branches "sources" "RouteBranch" segment (branches "stubs" "RouteBranch" segment no_more))

abbrev pub site_instance : Struct
site_instance = struct_of "SiteInstance" (field "site" name ∷ field "type" name ∷ []) no_more

abbrev pub property : Struct
property = struct_of "Property" (field "key" name ∷ field "value" name ∷ []) no_more

abbrev pub phys_netlist : Struct
phys_netlist = struct_of "PhysNetlist"
    []
    (text "part"
    (string_table "strList"
    (structs "placements" nowhere cell_placement
    (structs "physNets" nowhere phys_net
    (structs "siteInsts" nowhere site_instance
    (structs "properties" nowhere property no_more))))))
