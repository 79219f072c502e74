-- What a device's record has under a name or a number. A name's first bearer counts; in a valid
-- device there is one.
use Rattle.std.specs.Prelude.{ℕ, ◌+◌, List, [], ◌∷◌, ◌++◌, map, slice_get, Option, option_map}
use Rattle.std.specs.Prelude.{nat_eq, option_and_then, length, IfSome, ◌<◌}
use Rattle.std.specs.List.{list_any, position}
use Rattle.ix_num.specs.Numbers.{NameNumber, TileNumber, SiteNumber, SiteTypeNumber, BelNumber}
use Rattle.ix_num.specs.Numbers.{BelPinNumber, SitePinNumber, SiteWireNumber, WireNumber, TileWire}
use Rattle.ix_rec.specs.declared.device.DeviceRec.{DeviceRec}
use Rattle.ix_rec.specs.declared.device.SiteType.{SiteType}
use Rattle.ix_rec.specs.declared.device.Tile.{Tile}
use Rattle.ix_rec.specs.declared.device.Site.{Site}
use Rattle.ix_rec.specs.declared.device.TileType.{TileType}
use Rattle.ix_device_rules.specs.Rules.{is_pin_of}

abbrev pub tile_named : DeviceRec → NameNumber → Option TileNumber
tile_named rec name = position (λ t. nat_eq t.name name) rec.tile_list

abbrev pub site_type_number : DeviceRec → NameNumber → Option SiteTypeNumber
site_type_number rec name = position (λ t. nat_eq t.name name) rec.site_type_list

-- Sites are numbered by tile, then by place in the tile: each with its tile's number.
unfoldable pub sites_from : TileNumber → List Tile → List (TileNumber × Site)
sites_from tile [] = []
sites_from tile (t ∷ ts) = map (λ s. (tile, s)) t.sites ++ sites_from (tile + 1) ts

abbrev pub sites_of : DeviceRec → List (TileNumber × Site)
sites_of rec = sites_from 0 rec.tile_list

abbrev pub site_named : DeviceRec → NameNumber → Option SiteNumber
site_named rec name = position (λ s. nat_eq s.1.name name) (sites_of rec)

abbrev pub name_of_site : DeviceRec → SiteNumber → Option NameNumber
name_of_site rec site = option_map (λ s. s.1.name) (slice_get (sites_of rec) site)

abbrev pub tile_of_site : DeviceRec → SiteNumber → Option TileNumber
tile_of_site rec site = option_map (λ s. s.0) (slice_get (sites_of rec) site)

-- a site's place in the list of site types of its tile's type
abbrev pub place_of_site : DeviceRec → SiteNumber → Option ℕ
place_of_site rec site = option_map (λ s. s.1.ty) (slice_get (sites_of rec) site)

-- the tile type of a tile
abbrev pub type_of_tile : DeviceRec → TileNumber → Option TileType
type_of_tile rec tile = option_and_then (λ t. slice_get rec.tile_type_list t.ty)
    (slice_get rec.tile_list tile)

-- A site's type is the one that its tile's type has at the site's own index.
abbrev pub type_of_site : DeviceRec → SiteNumber → Option SiteTypeNumber
type_of_site rec site =
    option_and_then (λ s. option_and_then (λ ty.
    option_map (λ u. u.primary_type) (slice_get ty.site_types s.1.ty)) (type_of_tile rec s.0))
    (slice_get (sites_of rec) site)

abbrev pub row_and_column : DeviceRec → TileNumber → Option (ℕ × ℕ)
row_and_column rec tile = option_map (λ t. (t.row, t.col)) (slice_get rec.tile_list tile)

-- Within a site type, numbers are places in its own lists.

-- what is told of the site type of this number
abbrev pub in_type : {A : Type 0} → (SiteType → Option A) → DeviceRec → SiteTypeNumber → Option A
in_type tell rec t = option_and_then tell (slice_get rec.site_type_list t)

abbrev pub bel_in : NameNumber → SiteType → Option BelNumber
bel_in name t = position (λ b. nat_eq b.name name) t.bels

-- the pin of this name of the BEL of this name
abbrev pub pin_of_bel : (bel name : NameNumber) → SiteType → Option BelPinNumber
pin_of_bel bel name t = position (is_pin_of bel name) t.bel_pins

-- the pin of this name of the BEL of this number
abbrev pub bel_pin_in : BelNumber → NameNumber → SiteType → Option BelPinNumber
bel_pin_in bel name t = option_and_then (λ b. pin_of_bel b.name name t) (slice_get t.bels bel)

abbrev pub site_pin_in : NameNumber → SiteType → Option SitePinNumber
site_pin_in name t = position (λ p. nat_eq p.name name) t.pins

-- the site wire of a BEL pin
abbrev pub wire_in : BelPinNumber → SiteType → Option SiteWireNumber
wire_in pin t = position (λ w. list_any (nat_eq pin) w.pins) t.site_wires

-- Tile wires are told by their tile and their place in the tile's type.

-- the place of a wire of this name in a tile type
abbrev pub wire_of_type : NameNumber → TileType → Option WireNumber
wire_of_type name ty = position (nat_eq name) ty.wires

-- the place of a wire of this name in the type of a tile
abbrev pub wire_in_tile : DeviceRec → TileNumber → NameNumber → Option WireNumber
wire_in_tile rec tile name = option_and_then (wire_of_type name) (type_of_tile rec tile)

-- a place in the list of wires of the type of a tile
abbrev pub IsInTile : DeviceRec → TileNumber → WireNumber → Type 0
IsInTile rec tile wire = IfSome (type_of_tile rec tile) (λ ty. wire < length ty.wires)

-- the place of the wire that a pin of the sites at this place of a tile type is on
abbrev pub wire_of_pin : (place : ℕ) → SitePinNumber → TileType → Option WireNumber
wire_of_pin place pin ty = option_and_then (λ u.
    option_and_then (λ name. wire_of_type name ty) (slice_get u.primary_pins_to_tile_wires pin))
    (slice_get ty.site_types place)

-- the place, in the type of a site's tile, of the wire that the site's pin is on
abbrev pub wire_of_site_pin : DeviceRec → SiteNumber → SitePinNumber → Option WireNumber
wire_of_site_pin rec site pin = option_and_then (λ s.
    option_and_then (wire_of_pin s.1.ty pin) (type_of_tile rec s.0)) (slice_get (sites_of rec) site)

-- the tile wire of these names: its tile and its place
abbrev pub tile_wire_named : DeviceRec → (tile wire : NameNumber) → Option TileWire
tile_wire_named rec tile wire = option_and_then (λ i.
    option_map (λ w. (i, w)) (wire_in_tile rec i wire)) (tile_named rec tile)
