-- The device resources: each struct with its fields, the inner structs first.
use Rattle.std.specs.Prelude.{ℕ, [], ◌∷◌}
use Rattle.ix_message.specs.Shape.{Struct, field, number, flag, nothing, choice, name, index}
use Rattle.ix_message.specs.Shape.{site_of_tile, by_tag, struct_of, no_more, text, texts, numbers}
use Rattle.ix_message.specs.Shape.{struct, struct_or_none, structs, string_table, unread, nowhere}
use Rattle.ix_message.specs.Shape.{site_types, tile_types, wires, bel_pins, tile_wires}

-- input, output, inout
abbrev pub directions : ℕ
directions = 3

-- logic, routing, site port
abbrev pub categories : ℕ
categories = 3

-- no preference, gnd, vcc
abbrev pub constants : ℕ
constants = 3

abbrev pub bel_pin : Struct
bel_pin = struct_of "BELPin" (field "name" name ∷ field "dir" (choice directions) ∷ field "bel" name
    ∷ []) no_more

abbrev pub site_pin : Struct
site_pin = struct_of "SitePin"
    (field "name" name ∷ field "dir" (choice directions) ∷ field "belpin" (index bel_pins) ∷ [])
    no_more

-- inversion: not inverting, inverting
abbrev pub bel : Struct
bel = struct_of "BEL"
    (field "name" name ∷ field "category" (choice categories) ∷ field "inversion_tag" (choice 2)
    ∷ field "nonInvertingPin" (by_tag 2 1 (index bel_pins) nothing)
    ∷ field "invertingPin" (by_tag 2 1 (index bel_pins) nothing) ∷ [])
    no_more

abbrev pub site_pip : Struct
site_pip = struct_of "SitePIP" (field "inpin" (index bel_pins) ∷ field "outpin" (index bel_pins)
    ∷ []) no_more

abbrev pub site_wire : Struct
site_wire = struct_of "SiteWire" (field "name" name ∷ [])
    (numbers "pins" nowhere (index bel_pins) no_more)

abbrev pub site_type : Struct
site_type = struct_of "SiteType"
    (field "name" name ∷ [])
    (structs "belPins" bel_pins bel_pin
    (structs "pins" nowhere site_pin
    (structs "bels" nowhere bel
    (structs "sitePIPs" nowhere site_pip
    (structs "siteWires" nowhere site_wire no_more)))))

abbrev pub site_type_in_tile_type : Struct
site_type_in_tile_type = struct_of "SiteTypeInTileType"
    (field "primaryType" (index site_types) ∷ [])
    (numbers "primaryPinsToTileWires" nowhere name no_more)

-- kind: conventional, pseudo cells
abbrev pub pip : Struct
pip = struct_of "PIP"
    (field "wire0" (index tile_wires) ∷ field "wire1" (index tile_wires) ∷ field "directional" flag
    ∷ field "kind_tag" (choice 2) ∷ [])
    no_more

abbrev pub wire_constant_sources : Struct
wire_constant_sources = struct_of "WireConstantSources"
    (field "constant" (choice constants) ∷ [])
    (numbers "wires" nowhere (index tile_wires) no_more)

abbrev pub tile_type : Struct
tile_type = struct_of "TileType"
    (field "name" name ∷ [])
    (structs "siteTypes" nowhere site_type_in_tile_type
    (numbers "wires" tile_wires name
    (structs "pips" nowhere pip
    (structs "constants" nowhere wire_constant_sources no_more))))

abbrev pub site : Struct
site = struct_of "Site" (field "name" name ∷ field "type" site_of_tile ∷ []) no_more

abbrev pub tile : Struct
tile = struct_of "Tile"
    (field "name" name ∷ field "type" (index tile_types) ∷ field "row" number ∷ field "col" number
    ∷ [])
    (structs "sites" nowhere site no_more)

abbrev pub wire : Struct
wire = struct_of "Wire" (field "tile" name ∷ field "wire" name ∷ []) no_more

abbrev pub node : Struct
node = struct_of "Node" [] (numbers "wires" nowhere (index wires) no_more)

abbrev pub site_type_bel_entry : Struct
site_type_bel_entry = struct_of "SiteTypeBelEntry" (field "siteType" name ∷ [])
    (numbers "bels" nowhere name no_more)

abbrev pub cell_bel_pin_entry : Struct
cell_bel_pin_entry = struct_of "CellBelPinEntry" (field "cellPin" name ∷ field "belPin" name ∷ [])
    no_more

abbrev pub common_cell_bel_pin_maps : Struct
common_cell_bel_pin_maps = struct_of "CommonCellBelPinMaps"
    []
    (structs "siteTypes" nowhere site_type_bel_entry
    (structs "pins" nowhere cell_bel_pin_entry no_more))

abbrev pub cell_bel_mapping : Struct
cell_bel_mapping = struct_of "CellBelMapping"
    (field "cell" name ∷ [])
    (structs "commonPins" nowhere common_cell_bel_pin_maps no_more)

-- site: none, one
abbrev pub package_pin : Struct
package_pin = struct_of "PackagePin"
    (field "packagePin" name ∷ field "site_tag" (choice 2) ∷ field "site" (by_tag 1 1 name nothing)
    ∷ [])
    no_more

abbrev pub package_of_pins : Struct
package_of_pins = struct_of "Package" (field "name" name ∷ [])
    (structs "packagePins" nowhere package_pin no_more)

abbrev pub site_constant_source : Struct
site_constant_source = struct_of "SiteConstantSource"
    (field "siteType" name ∷ field "bel" name ∷ field "belPin" name
    ∷ field "constant" (choice constants) ∷ [])
    no_more

abbrev pub node_constant_source : Struct
node_constant_source = struct_of "NodeConstantSource"
    (field "tile" name ∷ field "wire" name ∷ field "constant" (choice constants) ∷ [])
    no_more

abbrev pub constant_cells : Struct
constant_cells = struct_of "Constants"
    (field "gndCellType" name ∷ field "gndCellPin" name ∷ field "vccCellType" name
    ∷ field "vccCellPin" name ∷ [])
    (structs "siteSources" nowhere site_constant_source
    (structs "nodeSources" nowhere node_constant_source no_more))

-- equation: invalid, a parameter; its name is a text that is read with either
abbrev pub lut_cell : Struct
lut_cell = struct_of "LutCell"
    (field "equation_tag" (choice 2) ∷ [])
    (text "cell" (texts "inputPins" (text "initParam" no_more)))

abbrev pub lut_bel : Struct
lut_bel = struct_of "LutBel"
    (field "lowBit" number ∷ field "highBit" number ∷ [])
    (text "name" (texts "inputPins" (text "outputPin" no_more)))

abbrev pub lut_element : Struct
lut_element = struct_of "LutElement" (field "width" number ∷ [])
    (structs "bels" nowhere lut_bel no_more)

abbrev pub site_type_lut_elements : Struct
site_type_lut_elements = struct_of "SiteTypeLutElements" []
    (text "site" (structs "luts" nowhere lut_element no_more))

abbrev pub lut_definitions : Struct
lut_definitions = struct_of "LutDefinitions"
    []
    (structs "lutCells" nowhere lut_cell (structs "lutElements" nowhere site_type_lut_elements
    no_more))

abbrev pub device : Struct
device = struct_of "Device"
    []
    (text "name"
    (string_table "strList"
    (structs "siteTypeList" site_types site_type
    (structs "tileTypeList" tile_types tile_type
    (structs "tileList" nowhere tile
    (structs "wires" wires wire
    (structs "nodes" nowhere node
    (unread "primLibs"
    (unread "exceptionMap"
    (structs "cellBelMap" nowhere cell_bel_mapping
    (structs "packages" nowhere package_of_pins
    (struct_or_none "constants" constant_cells
    (struct "lutDefinitions" lut_definitions no_more)))))))))))))
