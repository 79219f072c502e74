-- Names of a device are names of a longer table too.
use Rattle.std.proofs.Common.{◌≡◌, ℕ, ◌<◌, ◌≤◌, List, [], ◌∷◌, length, Option, Some, None, refl}
use Rattle.std.proofs.Common.{lt_of_lt_of_le, true, false, Bool, nat_lt}
use Rattle.std.proofs.Math.Nat.{not-suc-le_self}
use Rattle.std.proofs.lemmas.Option.{slice_get_within, slice_get-get_or}
use borrow.Author.Tests.{ltb-true, ltb-false}
use Rattle.ix_message.specs.Shape.{Text}
use Rattle.ix_strings.specs.Names.{KeepsNumbers}
use Rattle.std.specs.List.{AllByRecursion}
use Rattle.ix_message.specs.Records.{IfThere}
use Rattle.ix_rec.specs.declared.device.BelPin.{BelPin}
use Rattle.ix_rec.specs.declared.device.SitePin.{SitePin}
use Rattle.ix_rec.specs.declared.device.Bel.{Bel}
use Rattle.ix_rec.specs.declared.device.SiteWire.{SiteWire}
use Rattle.ix_rec.specs.declared.device.SiteType.{SiteType}
use Rattle.ix_rec.specs.declared.device.SiteTypeInTileType.{SiteTypeInTileType}
use Rattle.ix_rec.specs.declared.device.TileType.{TileType}
use Rattle.ix_rec.specs.declared.device.Site.{Site}
use Rattle.ix_rec.specs.declared.device.Tile.{Tile}
use Rattle.ix_rec.specs.declared.device.Wire.{Wire}
use Rattle.ix_rec.specs.declared.device.SiteTypeBelEntry.{SiteTypeBelEntry}
use Rattle.ix_rec.specs.declared.device.CellBelPinEntry.{CellBelPinEntry}
use Rattle.ix_rec.specs.declared.device.CommonCellBelPinMaps.{CommonCellBelPinMaps}
use Rattle.ix_rec.specs.declared.device.CellBelMapping.{CellBelMapping}
use Rattle.ix_rec.specs.declared.device.PackagePin.{PackagePin}
use Rattle.ix_rec.specs.declared.device.Package.{Package}
use Rattle.ix_rec.specs.declared.device.SiteConstantSource.{SiteConstantSource}
use Rattle.ix_rec.specs.declared.device.NodeConstantSource.{NodeConstantSource}
use Rattle.ix_rec.specs.declared.device.Constants.{Constants}
use Rattle.ix_rec.specs.declared.device.LutCell.{LutCell}
use Rattle.ix_rec.specs.declared.device.LutBel.{LutBel}
use Rattle.ix_rec.specs.declared.device.LutElement.{LutElement}
use Rattle.ix_rec.specs.declared.device.SiteTypeLutElements.{SiteTypeLutElements}
use Rattle.ix_rec.specs.declared.device.LutDefinitions.{LutDefinitions}
use Rattle.ix_rec.specs.declared.device.DeviceRec.{DeviceRec}
use Rattle.ix_rec.specs.declared.device.PackagePinSite.{PackagePinSite}
use Rattle.ix_rec.specs.declared.device.PackagePinSite.TheVariants.{NoSite, Site as SiteOfName}
use Rattle.ix_device_read.specs.Named.{PinSiteNamed, BelPinNamed, SitePinNamed, BelNamed}
use Rattle.ix_device_read.specs.Named.{SiteWireNamed, SiteTypeNamed, SiteTypeInTileTypeNamed}
use Rattle.ix_device_read.specs.Named.{TileTypeNamed, SiteNamed, TileNamed, WireNamed}
use Rattle.ix_device_read.specs.Named.{SiteTypeBelEntryNamed, CellBelPinEntryNamed}
use Rattle.ix_device_read.specs.Named.{CommonCellBelPinMapsNamed, CellBelMappingNamed}
use Rattle.ix_device_read.specs.Named.{PackagePinNamed, PackageNamed, SiteConstantSourceNamed}
use Rattle.ix_device_read.specs.Named.{NodeConstantSourceNamed, ConstantsNamed, LutCellNamed}
use Rattle.ix_device_read.specs.Named.{LutBelNamed, LutElementNamed, SiteTypeLutElementsNamed}
use Rattle.ix_device_read.specs.Named.{LutDefinitionsNamed, DeviceNamed}

all_more : {A : Type 0} {P Q : A → Type 0} → ((x : A) → P x → Q x) → (xs : List A)
    → AllByRecursion P xs → AllByRecursion Q xs
all_more f [] h = tt
all_more f (x ∷ xs) h = (f x h.0, all_more f xs h.1)

there_more : {A : Type 0} {P Q : A → Type 0} → ((x : A) → P x → Q x) → (o : Option A) → IfThere P o
    → IfThere Q o
there_more f None h = tt
there_more f (Some x) h = f x h

module _ {m n : ℕ} (le : m ≤ n) where
  up : (id : ℕ) → id < m → id < n
  up id h = lt_of_lt_of_le h le

  pin_site : (r : PackagePinSite) → PinSiteNamed m r → PinSiteNamed n r
  pin_site NoSite h = tt
  pin_site (SiteOfName id) h = up id h

  more_bel_pin : (r : BelPin) → BelPinNamed m r → BelPinNamed n r
  more_bel_pin r h = record {
    name = up r.name h.name;
    bel = up r.bel h.bel;
  }

  more_site_pin : (r : SitePin) → SitePinNamed m r → SitePinNamed n r
  more_site_pin r h = record {
    name = up r.name h.name;
  }

  more_bel : (r : Bel) → BelNamed m r → BelNamed n r
  more_bel r h = record {
    name = up r.name h.name;
  }

  more_site_wire : (r : SiteWire) → SiteWireNamed m r → SiteWireNamed n r
  more_site_wire r h = record {
    name = up r.name h.name;
  }

  more_site_type : (r : SiteType) → SiteTypeNamed m r → SiteTypeNamed n r
  more_site_type r h = record {
    name = up r.name h.name;
    bel_pins = all_more more_bel_pin r.bel_pins h.bel_pins;
    pins = all_more more_site_pin r.pins h.pins;
    bels = all_more more_bel r.bels h.bels;
    site_wires = all_more more_site_wire r.site_wires h.site_wires;
  }

  more_site_type_in_tile_type : (r : SiteTypeInTileType) → SiteTypeInTileTypeNamed m r
      → SiteTypeInTileTypeNamed n r
  more_site_type_in_tile_type r h = record {
    primary_pins_to_tile_wires = all_more up r.primary_pins_to_tile_wires
        h.primary_pins_to_tile_wires;
  }

  more_tile_type : (r : TileType) → TileTypeNamed m r → TileTypeNamed n r
  more_tile_type r h = record {
    name = up r.name h.name;
    site_types = all_more more_site_type_in_tile_type r.site_types h.site_types;
    wires = all_more up r.wires h.wires;
  }

  more_site : (r : Site) → SiteNamed m r → SiteNamed n r
  more_site r h = record {
    name = up r.name h.name;
  }

  more_tile : (r : Tile) → TileNamed m r → TileNamed n r
  more_tile r h = record {
    name = up r.name h.name;
    sites = all_more more_site r.sites h.sites;
  }

  more_wire : (r : Wire) → WireNamed m r → WireNamed n r
  more_wire r h = record {
    tile = up r.tile h.tile;
    wire = up r.wire h.wire;
  }

  more_site_type_bel_entry : (r : SiteTypeBelEntry) → SiteTypeBelEntryNamed m r
      → SiteTypeBelEntryNamed n r
  more_site_type_bel_entry r h = record {
    site_type = up r.site_type h.site_type;
    bels = all_more up r.bels h.bels;
  }

  more_cell_bel_pin_entry : (r : CellBelPinEntry) → CellBelPinEntryNamed m r
      → CellBelPinEntryNamed n r
  more_cell_bel_pin_entry r h = record {
    cell_pin = up r.cell_pin h.cell_pin;
    bel_pin = up r.bel_pin h.bel_pin;
  }

  more_common_cell_bel_pin_maps : (r : CommonCellBelPinMaps) → CommonCellBelPinMapsNamed m r
      → CommonCellBelPinMapsNamed n r
  more_common_cell_bel_pin_maps r h = record {
    site_types = all_more more_site_type_bel_entry r.site_types h.site_types;
    pins = all_more more_cell_bel_pin_entry r.pins h.pins;
  }

  more_cell_bel_mapping : (r : CellBelMapping) → CellBelMappingNamed m r → CellBelMappingNamed n r
  more_cell_bel_mapping r h = record {
    cell = up r.cell h.cell;
    common_pins = all_more more_common_cell_bel_pin_maps r.common_pins h.common_pins;
  }

  more_package_pin : (r : PackagePin) → PackagePinNamed m r → PackagePinNamed n r
  more_package_pin r h = record {
    package_pin = up r.package_pin h.package_pin;
    site = pin_site r.site h.site;
  }

  more_package : (r : Package) → PackageNamed m r → PackageNamed n r
  more_package r h = record {
    name = up r.name h.name;
    package_pins = all_more more_package_pin r.package_pins h.package_pins;
  }

  more_site_constant_source : (r : SiteConstantSource) → SiteConstantSourceNamed m r
      → SiteConstantSourceNamed n r
  more_site_constant_source r h = record {
    site_type = up r.site_type h.site_type;
    bel = up r.bel h.bel;
    bel_pin = up r.bel_pin h.bel_pin;
  }

  more_node_constant_source : (r : NodeConstantSource) → NodeConstantSourceNamed m r
      → NodeConstantSourceNamed n r
  more_node_constant_source r h = record {
    tile = up r.tile h.tile;
    wire = up r.wire h.wire;
  }

  more_constants : (r : Constants) → ConstantsNamed m r → ConstantsNamed n r
  more_constants r h = record {
    gnd_cell_type = up r.gnd_cell_type h.gnd_cell_type;
    gnd_cell_pin = up r.gnd_cell_pin h.gnd_cell_pin;
    vcc_cell_type = up r.vcc_cell_type h.vcc_cell_type;
    vcc_cell_pin = up r.vcc_cell_pin h.vcc_cell_pin;
    site_sources = all_more more_site_constant_source r.site_sources h.site_sources;
    node_sources = all_more more_node_constant_source r.node_sources h.node_sources;
  }

  more_lut_cell : (r : LutCell) → LutCellNamed m r → LutCellNamed n r
  more_lut_cell r h = record {
    cell = up r.cell h.cell;
    input_pins = all_more up r.input_pins h.input_pins;
    init_param = up r.init_param h.init_param;
  }

  more_lut_bel : (r : LutBel) → LutBelNamed m r → LutBelNamed n r
  more_lut_bel r h = record {
    name = up r.name h.name;
    input_pins = all_more up r.input_pins h.input_pins;
    output_pin = up r.output_pin h.output_pin;
  }

  more_lut_element : (r : LutElement) → LutElementNamed m r → LutElementNamed n r
  more_lut_element r h = record {
    bels = all_more more_lut_bel r.bels h.bels;
  }

  more_site_type_lut_elements : (r : SiteTypeLutElements) → SiteTypeLutElementsNamed m r
      → SiteTypeLutElementsNamed n r
  more_site_type_lut_elements r h = record {
    site = up r.site h.site;
    luts = all_more more_lut_element r.luts h.luts;
  }

  more_lut_definitions : (r : LutDefinitions) → LutDefinitionsNamed m r → LutDefinitionsNamed n r
  more_lut_definitions r h = record {
    lut_cells = all_more more_lut_cell r.lut_cells h.lut_cells;
    lut_elements = all_more more_site_type_lut_elements r.lut_elements h.lut_elements;
  }

  more_device : (r : DeviceRec) → DeviceNamed m r → DeviceNamed n r
  more_device r h = record {
    name = up r.name h.name;
    site_type_list = all_more more_site_type r.site_type_list h.site_type_list;
    tile_type_list = all_more more_tile_type r.tile_type_list h.tile_type_list;
    tile_list = all_more more_tile r.tile_list h.tile_list;
    wires = all_more more_wire r.wires h.wires;
    cell_bel_map = all_more more_cell_bel_mapping r.cell_bel_map h.cell_bel_map;
    packages = all_more more_package r.packages h.packages;
    constants = there_more more_constants r.constants h.constants;
    lut_definitions = more_lut_definitions r.lut_definitions h.lut_definitions;
  }

-- where each name keeps its number, there are no fewer names
pub no_fewer : (old new : List Text) → KeepsNumbers old new → length old ≤ length new
no_fewer old new keeps = by (nat_lt (length new) (length old)) refl
  where
    by : (b : Bool) → nat_lt (length new) (length old) ≡ b → length old ≤ length new
    by true e = absurd (not-suc-le_self (length new)
        (slice_get_within new (length new) _
        (keeps (length new) _ (slice_get-get_or old (length new) []
        (ltb-true (length new) (length old) e)))))
    by false e = ltb-false (length new) (length old) e

pub still_named : (old new : List Text) (rec : DeviceRec) → KeepsNumbers old new
    → DeviceNamed (length old) rec → DeviceNamed (length new) rec
still_named old new rec keeps h = more_device (no_fewer old new keeps) rec h
