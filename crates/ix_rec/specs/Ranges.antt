-- Indexes of a device's record are in their lists.
use Rattle.std.specs.Prelude.{◌<◌, ℕ, List, length, slice_get, Option, Some, None}
use Rattle.std.specs.List.{AllByRecursion}
use Rattle.ix_rec.specs.declared.device.DeviceRec.{DeviceRec}
use Rattle.ix_rec.specs.declared.device.SitePin.{SitePin}
use Rattle.ix_rec.specs.declared.device.Bel.{Bel}
use Rattle.ix_rec.specs.declared.device.Inversion.{Inversion}
use Rattle.ix_rec.specs.declared.device.Inversion.TheVariants.{NonInverting, Inverting}
use Rattle.ix_rec.specs.declared.device.SitePip.{SitePip}
use Rattle.ix_rec.specs.declared.device.SiteWire.{SiteWire}
use Rattle.ix_rec.specs.declared.device.SiteType.{SiteType}
use Rattle.ix_rec.specs.declared.device.SiteTypeInTileType.{SiteTypeInTileType}
use Rattle.ix_rec.specs.declared.device.Pip.{Pip}
use Rattle.ix_rec.specs.declared.device.WireConstantSources.{WireConstantSources}
use Rattle.ix_rec.specs.declared.device.TileType.{TileType}
use Rattle.ix_rec.specs.declared.device.Site.{Site}
use Rattle.ix_rec.specs.declared.device.Tile.{Tile}
use Rattle.ix_rec.specs.declared.device.Node.{Node}

abbrev pub InversionFits : ℕ → Inversion → Type 0
InversionFits pins NonInverting = Unit {0}
InversionFits pins (Inverting a b) = (a < pins) × (b < pins)

-- a site type's indexes lead into its own BEL pins
pub record SiteTypeFits (t : SiteType) : Type 0 where
  pub pins : AllByRecursion (λ p. p.belpin < length t.bel_pins) t.pins
  pub bels : AllByRecursion (λ b. InversionFits (length t.bel_pins) b.inversion) t.bels
  pub pips : AllByRecursion (λ p. (p.inpin < length t.bel_pins)
      × (p.outpin < length t.bel_pins)) t.site_pips
  pub wires : AllByRecursion (λ w. AllByRecursion (λ p. p < length t.bel_pins) w.pins) t.site_wires

-- a tile type's indexes lead into its own wires and the device's site types
pub record TileTypeFits (site_types : ℕ) (t : TileType) : Type 0 where
  pub sites : AllByRecursion (λ s. s.primary_type < site_types) t.site_types
  pub pips : AllByRecursion (λ p. (p.wire0 < length t.wires) × (p.wire1 < length t.wires)) t.pips
  pub constants : AllByRecursion (λ c. AllByRecursion (λ w. w < length t.wires) c.wires) t.constants

-- a tile's sites are of types that its own type lists
abbrev pub SitesFit : Option TileType → List Site → Type 0
SitesFit None sites = ⊥
SitesFit (Some ty) sites = AllByRecursion (λ s. s.ty < length ty.site_types) sites

-- each index of the record is in its list
pub record IndexesFit (rec : DeviceRec) : Type 0 where
  pub site_types : AllByRecursion SiteTypeFits rec.site_type_list
  pub tile_types : AllByRecursion (TileTypeFits (length rec.site_type_list)) rec.tile_type_list
  pub tiles : AllByRecursion (λ t. SitesFit (slice_get rec.tile_type_list t.ty) t.sites)
      rec.tile_list
  pub nodes : AllByRecursion (λ n. AllByRecursion (λ w. w < length rec.wires) n.wires) rec.nodes
