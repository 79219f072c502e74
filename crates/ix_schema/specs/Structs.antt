-- The structs of the messages by their numbers: inner structs before outer ones, the root last.
use Rattle.std.specs.Prelude.{List, [], ◌∷◌}
use Rattle.ix_message.specs.Shape.{Struct}
use Rattle.ix_message.specs.Device.{bel_pin, site_pin, bel, site_pip, site_wire, site_type}
use Rattle.ix_message.specs.Device.{site_type_in_tile_type, pip, wire_constant_sources, tile_type}
use Rattle.ix_message.specs.Device.{site, tile, wire, node, site_type_bel_entry, cell_bel_pin_entry}
use Rattle.ix_message.specs.Device.{common_cell_bel_pin_maps, cell_bel_mapping, package_pin}
use Rattle.ix_message.specs.Device.{package_of_pins, site_constant_source, node_constant_source}
use Rattle.ix_message.specs.Device.{constant_cells, lut_cell, lut_bel, lut_element}
use Rattle.ix_message.specs.Device.{site_type_lut_elements, lut_definitions, device}
use Rattle.ix_message.specs.Phys.{pin_mapping, cell_placement, phys_net, site_instance, property}
use Rattle.ix_message.specs.Phys.{phys_netlist}

abbrev pub device_structs : List Struct
device_structs = bel_pin ∷ site_pin ∷ bel ∷ site_pip ∷ site_wire ∷ site_type
    ∷ site_type_in_tile_type ∷ pip ∷ wire_constant_sources ∷ tile_type ∷ site ∷ tile ∷ wire ∷ node
    ∷ site_type_bel_entry ∷ cell_bel_pin_entry ∷ common_cell_bel_pin_maps ∷ cell_bel_mapping
    ∷ package_pin ∷ package_of_pins ∷ site_constant_source ∷ node_constant_source ∷ constant_cells
    ∷ lut_cell ∷ lut_bel ∷ lut_element ∷ site_type_lut_elements ∷ lut_definitions ∷ device ∷ []

abbrev pub phys_structs : List Struct
phys_structs = pin_mapping ∷ cell_placement ∷ phys_net ∷ site_instance ∷ property ∷ phys_netlist
    ∷ []
