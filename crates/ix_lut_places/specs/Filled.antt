-- Rows that have the elements of the first so many entries.
use Rattle.std.specs.Prelude.{◌≡◌, ℕ, List, [], length, map, take, slice_get, Some}
use Rattle.std.specs.Prelude.{option_map, unwrap_or}
use Rattle.ix_num.specs.Numbers.{SiteTypeNumber}
use Rattle.ix_rec.specs.declared.device.DeviceRec.{DeviceRec}
use Rattle.ix_rec.specs.declared.device.LutElement.{LutElement}
use Rattle.ix_rec.specs.declared.device.SiteType.{SiteType}
use Rattle.ix_device_rules.specs.Rules.{elements_for}
use Rattle.ix_lut_places.specs.declared.filling.ElementPlace.{ElementPlace}
use Rattle.ix_lut_places.specs.Places.{lut_at}

-- the elements of an entry
abbrev pub luts_of : DeviceRec → (entry : ℕ) → List LutElement
luts_of rec entry =
    unwrap_or (option_map (λ e. e.luts) (slice_get rec.lut_definitions.lut_elements entry)) []

-- of the first so many entries
pub record HaveElements (rec : DeviceRec) (count : ℕ) (rows : List (List ElementPlace))
    : Type 0 where
  pub types : length rows ≡ length rec.site_type_list
  pub each : (t : SiteTypeNumber) (ty : SiteType) (row : List ElementPlace)
      → slice_get rec.site_type_list t ≡ Some ty → slice_get rows t ≡ Some row
      → map (lut_at rec) row
      ≡ map Some (elements_for ty.name (take count rec.lut_definitions.lut_elements))
