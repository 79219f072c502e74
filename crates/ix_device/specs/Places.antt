-- The places of LUT BELs, by the names of site type and BEL.
use Rattle.std.specs.Prelude.{◌≡◌, ℕ, List, slice_get, Option, Some, option_map, option_and_then}
use Rattle.std.specs.List.{find}
use Rattle.ix_rec.specs.declared.device.DeviceRec.{DeviceRec}
use Rattle.ix_rec.specs.declared.device.SiteType.{SiteType}
use Rattle.ix_rec.specs.declared.device.LutElement.{LutElement}
use Rattle.ix_rec.specs.declared.device.SiteTypeLutElements.{SiteTypeLutElements}
use Rattle.ix_keys.specs.Keys.{key}
use Rattle.ix_first.specs.First.{value_at}
use Rattle.ix_first.specs.declared.by_key.FirstByKey.{FirstByKey}
use Rattle.ix_device_rules.specs.Rules.{element_has}
use Rattle.ix_device.specs.Elements.{place_in, element_of_bel}
use Rattle.ix_device.specs.Admission.{inputs_of_bel}
use Rattle.ix_device.specs.declared.element_places.ElementPlace.{ElementPlace}

-- an element's number, and a place in it
abbrev pub place_told : ElementPlace → ℕ × ℕ
place_told p = (p.element, p.place)

-- the element that is meant
abbrev pub element_at : List SiteTypeLutElements → ElementPlace → Option LutElement
element_at entries p = option_and_then (λ e. slice_get e.luts p.lut) (slice_get entries p.entry)

-- A table has the places of the BELs of these elements, by the names of their site types and their
-- own. The elements are told by the name of their site type, and stand in these entries.
pub record ArePlaces (entries : List SiteTypeLutElements) (elements : ℕ
    → List LutElement) (table : FirstByKey ElementPlace) : Type 0 where
  pub places : (ty bel : ℕ) → option_map place_told (value_at table (key ty 0 bel))
      ≡ place_in bel (elements ty)
  pub luts : (ty bel : ℕ) → option_map (element_at entries) (value_at table (key ty 0 bel))
      ≡ option_map Some (find (element_has bel) (elements ty))

-- the place of the BEL of this number of a site type
abbrev pub place_of_bel : FirstByKey ElementPlace → SiteType → ℕ → Option ElementPlace
place_of_bel places t bel = option_and_then (λ b. value_at places (key t.name 0 b.name))
    (slice_get t.bels bel)

-- how many inputs the BEL of this number has in a usable element
abbrev pub usable_inputs : DeviceRec → SiteType → ℕ → Option ℕ
usable_inputs rec t bel = option_and_then (inputs_of_bel rec t) (element_of_bel rec bel t)
