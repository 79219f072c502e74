-- The LUT elements of site types, by the name of the type and the element's number.
use Rattle.std.specs.Prelude.{◌≡◌, ℕ, List, length, slice_get, Option, Some, option_map}
use Rattle.std.specs.Prelude.{option_and_then}
use Rattle.ix_rec.specs.declared.device.LutElement.{LutElement}
use Rattle.ix_rec.specs.declared.device.SiteTypeLutElements.{SiteTypeLutElements}
use Rattle.ix_keys.specs.Keys.{key}
use Rattle.ix_first.specs.First.{value_at}
use Rattle.ix_first.specs.declared.by_key.FirstByKey.{FirstByKey}
use Rattle.ix_device_rules.specs.Rules.{elements_for}
use Rattle.ix_device.specs.Counts.{count_at}
use Rattle.ix_device.specs.declared.numbered.LutPlace.{LutPlace}
use Rattle.ix_device.specs.declared.numbered.NumberedElements.{NumberedElements}

-- the element that stands there
abbrev pub lut_at : List SiteTypeLutElements → LutPlace → Option LutElement
lut_at entries p = option_and_then (λ e. slice_get e.luts p.lut) (slice_get entries p.entry)

-- A table has the places, in these entries, of these elements, which are told by the name of their
-- site type.
abbrev pub HasElements : List SiteTypeLutElements → (ℕ → List LutElement) → FirstByKey LutPlace
    → Type 0
HasElements entries elements table =
    (ty k : ℕ) → option_map (lut_at entries) (value_at table (key ty k 0))
    ≡ option_map Some (slice_get (elements ty) k)

-- the elements of these entries, and how many each site type has
pub record AreNumbered (entries : List SiteTypeLutElements) (n : NumberedElements) : Type 0 where
  pub places : HasElements entries (λ ty. elements_for ty entries) n.places
  pub counts : (ty : ℕ) → count_at n.counts ty ≡ length (elements_for ty entries)
