-- What the tables of a device say of its record.
use Rattle.std.specs.Prelude.{◌≡◌, ℕ, List, map, slice_get, Option, Some, option_map}
use Rattle.std.specs.Prelude.{option_and_then}
use Rattle.ix_rec.specs.declared.device.DeviceRec.{DeviceRec}
use Rattle.ix_rec.specs.declared.device.TileType.{TileType}
use Rattle.ix_rec.specs.declared.device.Site.{Site}
use Rattle.ix_device.specs.Lookups.{type_of_tile, sites_of}
use Rattle.ix_device.specs.declared.sites.SiteEntry.{SiteEntry}

-- an entry of the table of sites: the site's name, tile, type and place in its tile's type
abbrev pub entry_told : SiteEntry → Option (ℕ × ℕ × ℕ × ℕ)
entry_told e = Some (e.name, e.tile, e.ty, e.place)

-- the same of a site in a tile of this type
abbrev pub told_in : ℕ → TileType → Site → Option (ℕ × ℕ × ℕ × ℕ)
told_in tile ty s = option_map (λ u. (s.name, tile, u.primary_type, s.ty))
    (slice_get ty.site_types s.ty)

abbrev pub told_of : DeviceRec → ℕ × Site → Option (ℕ × ℕ × ℕ × ℕ)
told_of rec s = option_and_then (λ ty. told_in s.0 ty s.1) (type_of_tile rec s.0)

abbrev pub AreSites : DeviceRec → List SiteEntry → Type 0
AreSites rec entries = map entry_told entries ≡ map (told_of rec) (sites_of rec)
