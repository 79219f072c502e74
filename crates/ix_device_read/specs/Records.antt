-- What the parts of a device record say: their data, and what their pointers lead to, with names as
-- texts.
use Rattle.std.specs.Prelude.{List, [], ◌∷◌, map}
use Rattle.ix_message.specs.Shape.{Text, Value}
use Rattle.ix_message.specs.Names.{Datum, the_number, the_text, option_with}
use Rattle.ix_message_read.specs.Tells.{flag_number}
use Rattle.ix_device_read.specs.Numbers.{name_text, direction_number, category_number}
use Rattle.ix_device_read.specs.Numbers.{constant_number, pip_kind_number, equation_number}
use Rattle.ix_device_read.specs.Numbers.{inversion_data, site_data}
use Rattle.ix_message.specs.Device.{bel_pin, site_pin, bel, site_pip, site_wire, site_type}
use Rattle.ix_message.specs.Device.{site_type_in_tile_type, pip, wire_constant_sources, tile_type}
use Rattle.ix_message.specs.Device.{site, tile, wire, node, site_type_bel_entry, cell_bel_pin_entry}
use Rattle.ix_message.specs.Device.{common_cell_bel_pin_maps, cell_bel_mapping, package_pin}
use Rattle.ix_message.specs.Device.{package_of_pins, site_constant_source, node_constant_source}
use Rattle.ix_message.specs.Device.{constant_cells, lut_cell, lut_bel, lut_element}
use Rattle.ix_message.specs.Device.{site_type_lut_elements, lut_definitions, device}
use Rattle.ix_rec.specs.declared.device.DeviceRec.{DeviceRec}
use Rattle.ix_rec.specs.declared.device.BelPin.{BelPin}
use Rattle.ix_rec.specs.declared.device.SitePin.{SitePin}
use Rattle.ix_rec.specs.declared.device.Bel.{Bel}
use Rattle.ix_rec.specs.declared.device.SitePip.{SitePip}
use Rattle.ix_rec.specs.declared.device.SiteWire.{SiteWire}
use Rattle.ix_rec.specs.declared.device.SiteType.{SiteType}
use Rattle.ix_rec.specs.declared.device.SiteTypeInTileType.{SiteTypeInTileType}
use Rattle.ix_rec.specs.declared.device.Pip.{Pip}
use Rattle.ix_rec.specs.declared.device.WireConstantSources.{WireConstantSources}
use Rattle.ix_rec.specs.declared.device.TileType.{TileType}
use Rattle.ix_rec.specs.declared.device.Site.{Site}
use Rattle.ix_rec.specs.declared.device.Tile.{Tile}
use Rattle.ix_rec.specs.declared.device.Wire.{Wire}
use Rattle.ix_rec.specs.declared.device.Node.{Node}
use Rattle.ix_rec.specs.declared.device.SiteTypeBelEntry.{SiteTypeBelEntry}
use Rattle.ix_rec.specs.declared.device.CellBelPinEntry.{CellBelPinEntry}
use Rattle.ix_rec.specs.declared.device.CommonCellBelPinMaps.{CommonCellBelPinMaps}
use Rattle.ix_rec.specs.declared.device.CellBelMapping.{CellBelMapping}
use Rattle.ix_rec.specs.declared.device.PackagePin.{PackagePin}
use Rattle.ix_rec.specs.declared.device.Package.{Package}
use Rattle.ix_rec.specs.declared.device.SiteConstantSource.{SiteConstantSource}
use Rattle.ix_rec.specs.declared.device.NodeConstantSource.{NodeConstantSource}
use Rattle.ix_rec.specs.declared.device.Constants.{Constants}
use Rattle.ix_rec.specs.declared.device.LutCell.{LutCell}
use Rattle.ix_rec.specs.declared.device.LutBel.{LutBel}
use Rattle.ix_rec.specs.declared.device.LutElement.{LutElement}
use Rattle.ix_rec.specs.declared.device.SiteTypeLutElements.{SiteTypeLutElements}
use Rattle.ix_rec.specs.declared.device.LutDefinitions.{LutDefinitions}

abbrev pub bel_pin_record : List Text → BelPin → Value Datum bel_pin
bel_pin_record names r = (
  the_text (name_text names r.name) ∷ the_number (direction_number r.dir)
      ∷ the_text (name_text names r.bel) ∷ [],
  tt,
)

abbrev pub site_pin_record : List Text → SitePin → Value Datum site_pin
site_pin_record names r = (
  the_text (name_text names r.name) ∷ the_number (direction_number r.dir)
      ∷ the_number r.belpin ∷ [],
  tt,
)

abbrev pub bel_record : List Text → Bel → Value Datum bel
bel_record names r = (
  the_text (name_text names r.name) ∷ the_number (category_number r.category)
      ∷ inversion_data r.inversion,
  tt,
)

abbrev pub site_pip_record : List Text → SitePip → Value Datum site_pip
site_pip_record names r = (the_number r.inpin ∷ the_number r.outpin ∷ [], tt)

abbrev pub site_wire_record : List Text → SiteWire → Value Datum site_wire
site_wire_record names r = (the_text (name_text names r.name) ∷ [], (map the_number r.pins, tt))

abbrev pub site_type_record : List Text → SiteType → Value Datum site_type
site_type_record names r = (
  the_text (name_text names r.name) ∷ [],
  (
    map (bel_pin_record names) r.bel_pins,
    (
      map (site_pin_record names) r.pins,
      (
        map (bel_record names) r.bels,
        (map (site_pip_record names) r.site_pips, (map (site_wire_record names) r.site_wires, tt)),
      ),
    ),
  ),
)

abbrev pub site_type_in_tile_type_record : List Text → SiteTypeInTileType
    → Value Datum site_type_in_tile_type
site_type_in_tile_type_record names r = (
  the_number r.primary_type ∷ [],
  (map (λ id. the_text (name_text names id)) r.primary_pins_to_tile_wires, tt),
)

abbrev pub pip_record : List Text → Pip → Value Datum pip
pip_record names r = (
  the_number r.wire0 ∷ the_number r.wire1
      ∷ the_number (flag_number r.directional) ∷ the_number (pip_kind_number r.kind) ∷ [],
  tt,
)

abbrev pub wire_constant_sources_record : List Text → WireConstantSources
    → Value Datum wire_constant_sources
wire_constant_sources_record names r = (
  the_number (constant_number r.constant) ∷ [],
  (map the_number r.wires, tt),
)

abbrev pub tile_type_record : List Text → TileType → Value Datum tile_type
tile_type_record names r = (
  the_text (name_text names r.name) ∷ [],
  (
    map (site_type_in_tile_type_record names) r.site_types,
    (
      map (λ id. the_text (name_text names id)) r.wires,
      (map (pip_record names) r.pips, (map (wire_constant_sources_record names) r.constants, tt)),
    ),
  ),
)

abbrev pub site_record : List Text → Site → Value Datum site
site_record names r = (the_text (name_text names r.name) ∷ the_number r.ty ∷ [], tt)

abbrev pub tile_record : List Text → Tile → Value Datum tile
tile_record names r = (
  the_text (name_text names r.name) ∷ the_number r.ty ∷ the_number r.row
      ∷ the_number r.col ∷ [],
  (map (site_record names) r.sites, tt),
)

abbrev pub wire_record : List Text → Wire → Value Datum wire
wire_record names r = (
  the_text (name_text names r.tile) ∷ the_text (name_text names r.wire) ∷ [],
  tt,
)

abbrev pub node_record : List Text → Node → Value Datum node
node_record names r = ([], (map the_number r.wires, tt))

abbrev pub site_type_bel_entry_record : List Text → SiteTypeBelEntry
    → Value Datum site_type_bel_entry
site_type_bel_entry_record names r = (
  the_text (name_text names r.site_type) ∷ [],
  (map (λ id. the_text (name_text names id)) r.bels, tt),
)

abbrev pub cell_bel_pin_entry_record : List Text → CellBelPinEntry → Value Datum cell_bel_pin_entry
cell_bel_pin_entry_record names r = (
  the_text (name_text names r.cell_pin)
      ∷ the_text (name_text names r.bel_pin) ∷ [],
  tt,
)

abbrev pub common_cell_bel_pin_maps_record : List Text → CommonCellBelPinMaps
    → Value Datum common_cell_bel_pin_maps
common_cell_bel_pin_maps_record names r = (
  [],
  (
    map (site_type_bel_entry_record names) r.site_types,
    (map (cell_bel_pin_entry_record names) r.pins, tt),
  ),
)

abbrev pub cell_bel_mapping_record : List Text → CellBelMapping → Value Datum cell_bel_mapping
cell_bel_mapping_record names r = (
  the_text (name_text names r.cell) ∷ [],
  (map (common_cell_bel_pin_maps_record names) r.common_pins, tt),
)

abbrev pub package_pin_record : List Text → PackagePin → Value Datum package_pin
package_pin_record names r = (the_text (name_text names r.package_pin) ∷ site_data names r.site, tt)

abbrev pub package_of_pins_record : List Text → Package → Value Datum package_of_pins
package_of_pins_record names r = (
  the_text (name_text names r.name) ∷ [],
  (map (package_pin_record names) r.package_pins, tt),
)

abbrev pub site_constant_source_record : List Text → SiteConstantSource
    → Value Datum site_constant_source
site_constant_source_record names r = (
  the_text (name_text names r.site_type)
      ∷ the_text (name_text names r.bel) ∷ the_text (name_text names r.bel_pin)
      ∷ the_number (constant_number r.constant) ∷ [],
  tt,
)

abbrev pub node_constant_source_record : List Text → NodeConstantSource
    → Value Datum node_constant_source
node_constant_source_record names r = (
  the_text (name_text names r.tile)
      ∷ the_text (name_text names r.wire) ∷ the_number (constant_number r.constant) ∷ [],
  tt,
)

abbrev pub constant_cells_record : List Text → Constants → Value Datum constant_cells
constant_cells_record names r = (
  the_text (name_text names r.gnd_cell_type)
      ∷ the_text (name_text names r.gnd_cell_pin) ∷ the_text (name_text names r.vcc_cell_type)
      ∷ the_text (name_text names r.vcc_cell_pin) ∷ [],
  (
    map (site_constant_source_record names) r.site_sources,
    (map (node_constant_source_record names) r.node_sources, tt),
  ),
)

abbrev pub lut_cell_record : List Text → LutCell → Value Datum lut_cell
lut_cell_record names r = (
  the_number (equation_number r.equation) ∷ [],
  (
    name_text names r.cell,
    (
      map (name_text names) r.input_pins,
      (name_text names r.init_param, tt),
    ),
  ),
)

abbrev pub lut_bel_record : List Text → LutBel → Value Datum lut_bel
lut_bel_record names r = (
  the_number r.low_bit ∷ the_number r.high_bit ∷ [],
  (
    name_text names r.name,
    (
      map (name_text names) r.input_pins,
      (name_text names r.output_pin, tt),
    ),
  ),
)

abbrev pub lut_element_record : List Text → LutElement → Value Datum lut_element
lut_element_record names r = (the_number r.width ∷ [], (map (lut_bel_record names) r.bels, tt))

abbrev pub site_type_lut_elements_record : List Text → SiteTypeLutElements
    → Value Datum site_type_lut_elements
site_type_lut_elements_record names r = (
  [],
  (name_text names r.site, (map (lut_element_record names) r.luts, tt)),
)

abbrev pub lut_definitions_record : List Text → LutDefinitions → Value Datum lut_definitions
lut_definitions_record names r = (
  [],
  (
    map (lut_cell_record names) r.lut_cells,
    (map (site_type_lut_elements_record names) r.lut_elements, tt),
  ),
)

abbrev pub device_record : List Text → DeviceRec → Value Datum device
device_record names r = (
  [],
  (
    name_text names r.name,
    (
      map (site_type_record names) r.site_type_list,
      (
        map (tile_type_record names) r.tile_type_list,
        (
          map (tile_record names) r.tile_list,
          (
            map (wire_record names) r.wires,
            (
              map (node_record names) r.nodes,
              (
                map (cell_bel_mapping_record names) r.cell_bel_map,
                (
                  map (package_of_pins_record names) r.packages,
                  (
                    option_with (constant_cells_record names) r.constants,
                    (lut_definitions_record names r.lut_definitions, tt),
                  ),
                ),
              ),
            ),
          ),
        ),
      ),
    ),
  ),
)
