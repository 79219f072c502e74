-- That each name in a part of a device record is below a number: how many names there are.
use Rattle.std.specs.Prelude.{ℕ, ◌+◌, ◌<◌, max, List, [], ◌∷◌, length}
use Rattle.std.specs.List.{AllByRecursion}
use Rattle.ix_message.specs.Records.{IfThere}
use Rattle.ix_message.specs.Shape.{Text}
use Rattle.ix_rec.specs.declared.device.BelPin.{BelPin}
use Rattle.ix_rec.specs.declared.device.SitePin.{SitePin}
use Rattle.ix_rec.specs.declared.device.Bel.{Bel}
use Rattle.ix_rec.specs.declared.device.SiteWire.{SiteWire}
use Rattle.ix_rec.specs.declared.device.SiteType.{SiteType}
use Rattle.ix_rec.specs.declared.device.SiteTypeInTileType.{SiteTypeInTileType}
use Rattle.ix_rec.specs.declared.device.TileType.{TileType}
use Rattle.ix_rec.specs.declared.device.Site.{Site}
use Rattle.ix_rec.specs.declared.device.Tile.{Tile}
use Rattle.ix_rec.specs.declared.device.Wire.{Wire}
use Rattle.ix_rec.specs.declared.device.SiteTypeBelEntry.{SiteTypeBelEntry}
use Rattle.ix_rec.specs.declared.device.CellBelPinEntry.{CellBelPinEntry}
use Rattle.ix_rec.specs.declared.device.CommonCellBelPinMaps.{CommonCellBelPinMaps}
use Rattle.ix_rec.specs.declared.device.CellBelMapping.{CellBelMapping}
use Rattle.ix_rec.specs.declared.device.PackagePin.{PackagePin}
use Rattle.ix_rec.specs.declared.device.Package.{Package}
use Rattle.ix_rec.specs.declared.device.SiteConstantSource.{SiteConstantSource}
use Rattle.ix_rec.specs.declared.device.NodeConstantSource.{NodeConstantSource}
use Rattle.ix_rec.specs.declared.device.Constants.{Constants}
use Rattle.ix_rec.specs.declared.device.LutCell.{LutCell}
use Rattle.ix_rec.specs.declared.device.LutBel.{LutBel}
use Rattle.ix_rec.specs.declared.device.LutElement.{LutElement}
use Rattle.ix_rec.specs.declared.device.SiteTypeLutElements.{SiteTypeLutElements}
use Rattle.ix_rec.specs.declared.device.LutDefinitions.{LutDefinitions}
use Rattle.ix_rec.specs.declared.device.DeviceRec.{DeviceRec}
use Rattle.ix_rec.specs.declared.device.PackagePinSite.{PackagePinSite}
use Rattle.ix_rec.specs.declared.device.PackagePinSite.TheVariants.{NoSite, Site as SiteOfName}
use Rattle.ix_device_read.specs.declared.context.Context.{Context}

abbrev pub AllNamed : ℕ → List ℕ → Type 0
AllNamed n ids = AllByRecursion (λ id. id < n) ids

-- a part that has no names
abbrev pub NoNames : {A : Type 0} → ℕ → A → Type 0
NoNames n r = Unit {0}

abbrev pub PinSiteNamed : ℕ → PackagePinSite → Type 0
PinSiteNamed n NoSite = Unit {0}
PinSiteNamed n (SiteOfName id) = id < n

pub record BelPinNamed (n : ℕ) (r : BelPin) : Type 0 where
  pub name : r.name < n
  pub bel : r.bel < n

pub record SitePinNamed (n : ℕ) (r : SitePin) : Type 0 where
  pub name : r.name < n

pub record BelNamed (n : ℕ) (r : Bel) : Type 0 where
  pub name : r.name < n

pub record SiteWireNamed (n : ℕ) (r : SiteWire) : Type 0 where
  pub name : r.name < n

pub record SiteTypeNamed (n : ℕ) (r : SiteType) : Type 0 where
  pub name : r.name < n
  pub bel_pins : AllByRecursion (BelPinNamed n) r.bel_pins
  pub pins : AllByRecursion (SitePinNamed n) r.pins
  pub bels : AllByRecursion (BelNamed n) r.bels
  pub site_wires : AllByRecursion (SiteWireNamed n) r.site_wires

pub record SiteTypeInTileTypeNamed (n : ℕ) (r : SiteTypeInTileType) : Type 0 where
  pub primary_pins_to_tile_wires : AllNamed n r.primary_pins_to_tile_wires

pub record TileTypeNamed (n : ℕ) (r : TileType) : Type 0 where
  pub name : r.name < n
  pub site_types : AllByRecursion (SiteTypeInTileTypeNamed n) r.site_types
  pub wires : AllNamed n r.wires

pub record SiteNamed (n : ℕ) (r : Site) : Type 0 where
  pub name : r.name < n

pub record TileNamed (n : ℕ) (r : Tile) : Type 0 where
  pub name : r.name < n
  pub sites : AllByRecursion (SiteNamed n) r.sites

pub record WireNamed (n : ℕ) (r : Wire) : Type 0 where
  pub tile : r.tile < n
  pub wire : r.wire < n

pub record SiteTypeBelEntryNamed (n : ℕ) (r : SiteTypeBelEntry) : Type 0 where
  pub site_type : r.site_type < n
  pub bels : AllNamed n r.bels

pub record CellBelPinEntryNamed (n : ℕ) (r : CellBelPinEntry) : Type 0 where
  pub cell_pin : r.cell_pin < n
  pub bel_pin : r.bel_pin < n

pub record CommonCellBelPinMapsNamed (n : ℕ) (r : CommonCellBelPinMaps) : Type 0 where
  pub site_types : AllByRecursion (SiteTypeBelEntryNamed n) r.site_types
  pub pins : AllByRecursion (CellBelPinEntryNamed n) r.pins

pub record CellBelMappingNamed (n : ℕ) (r : CellBelMapping) : Type 0 where
  pub cell : r.cell < n
  pub common_pins : AllByRecursion (CommonCellBelPinMapsNamed n) r.common_pins

pub record PackagePinNamed (n : ℕ) (r : PackagePin) : Type 0 where
  pub package_pin : r.package_pin < n
  pub site : PinSiteNamed n r.site

pub record PackageNamed (n : ℕ) (r : Package) : Type 0 where
  pub name : r.name < n
  pub package_pins : AllByRecursion (PackagePinNamed n) r.package_pins

pub record SiteConstantSourceNamed (n : ℕ) (r : SiteConstantSource) : Type 0 where
  pub site_type : r.site_type < n
  pub bel : r.bel < n
  pub bel_pin : r.bel_pin < n

pub record NodeConstantSourceNamed (n : ℕ) (r : NodeConstantSource) : Type 0 where
  pub tile : r.tile < n
  pub wire : r.wire < n

pub record ConstantsNamed (n : ℕ) (r : Constants) : Type 0 where
  pub gnd_cell_type : r.gnd_cell_type < n
  pub gnd_cell_pin : r.gnd_cell_pin < n
  pub vcc_cell_type : r.vcc_cell_type < n
  pub vcc_cell_pin : r.vcc_cell_pin < n
  pub site_sources : AllByRecursion (SiteConstantSourceNamed n) r.site_sources
  pub node_sources : AllByRecursion (NodeConstantSourceNamed n) r.node_sources

pub record LutCellNamed (n : ℕ) (r : LutCell) : Type 0 where
  pub cell : r.cell < n
  pub input_pins : AllNamed n r.input_pins
  pub init_param : r.init_param < n

pub record LutBelNamed (n : ℕ) (r : LutBel) : Type 0 where
  pub name : r.name < n
  pub input_pins : AllNamed n r.input_pins
  pub output_pin : r.output_pin < n

pub record LutElementNamed (n : ℕ) (r : LutElement) : Type 0 where
  pub bels : AllByRecursion (LutBelNamed n) r.bels

pub record SiteTypeLutElementsNamed (n : ℕ) (r : SiteTypeLutElements) : Type 0 where
  pub site : r.site < n
  pub luts : AllByRecursion (LutElementNamed n) r.luts

pub record LutDefinitionsNamed (n : ℕ) (r : LutDefinitions) : Type 0 where
  pub lut_cells : AllByRecursion (LutCellNamed n) r.lut_cells
  pub lut_elements : AllByRecursion (SiteTypeLutElementsNamed n) r.lut_elements

pub record DeviceNamed (n : ℕ) (r : DeviceRec) : Type 0 where
  pub name : r.name < n
  pub site_type_list : AllByRecursion (SiteTypeNamed n) r.site_type_list
  pub tile_type_list : AllByRecursion (TileTypeNamed n) r.tile_type_list
  pub tile_list : AllByRecursion (TileNamed n) r.tile_list
  pub wires : AllByRecursion (WireNamed n) r.wires
  pub cell_bel_map : AllByRecursion (CellBelMappingNamed n) r.cell_bel_map
  pub packages : AllByRecursion (PackageNamed n) r.packages
  pub constants : IfThere (ConstantsNamed n) r.constants
  pub lut_definitions : LutDefinitionsNamed n r.lut_definitions

-- a number above each of these
abbrev pub above : List ℕ → ℕ
above [] = 0
above (id ∷ ids) = max (id + 1) (above ids)

-- a number above those of the string table and of all names
unfoldable pub limit : List ℕ → List Text → ℕ
limit strings names = max (above strings) (length names)

abbrev pub limit_of : Context → ℕ
limit_of c = limit c.strings.now c.names.now
