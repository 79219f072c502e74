-- What the tables of a site type say of it.
use Rattle.std.specs.Prelude.{◌≡◌, ◌<◌, ℕ, List, length, slice_get, Some}
use Rattle.ix_rec.specs.declared.device.DeviceRec.{DeviceRec}
use Rattle.ix_rec.specs.declared.device.SiteType.{SiteType}
use Rattle.ix_keys.specs.Keys.{key, name_key}
use Rattle.ix_first.specs.First.{value_at, value_of}
use Rattle.ix_device.specs.Lookups.{bel_in, pin_of_bel, site_pin_in, wire_in}
use Rattle.ix_device.specs.Elements.{element_of_bel}
use Rattle.ix_device.specs.Sources.{site_source_in}
use Rattle.ix_device.specs.SitePips.{site_pip_from}
use Rattle.ix_device.specs.Places.{usable_inputs}
use Rattle.ix_device.specs.declared.types.TypeTables.{TypeTables}

pub record AreTypeTables (rec : DeviceRec) (t : SiteType) (tables : TypeTables) : Type 0 where
  pub bels : (name : ℕ) → value_at tables.bels (name_key name) ≡ bel_in name t
  pub bel_pins : (bel name : ℕ) → value_at tables.bel_pins (key 0 bel name) ≡ pin_of_bel bel name t
  pub site_pins : (name : ℕ) → value_at tables.site_pins (name_key name) ≡ site_pin_in name t
  pub wires : (pin : ℕ) → pin < length t.bel_pins → value_of tables.wires pin ≡ Some (wire_in pin t)
  pub elements : (bel : ℕ) → bel < length t.bels
      → value_of tables.elements bel ≡ Some (element_of_bel rec bel t)
  pub inputs : (bel : ℕ) → bel < length t.bels
      → value_of tables.inputs bel ≡ Some (usable_inputs rec t bel)
  pub sources : (pin : ℕ) → pin < length t.bel_pins
      → value_of tables.sources pin ≡ Some (site_source_in rec pin t)
  pub site_pips : (pin : ℕ) → pin < length t.bel_pins
      → value_of tables.site_pips pin ≡ Some (site_pip_from pin t)

-- the tables of all site types, in their order
pub record AreAllTypeTables (rec : DeviceRec) (all : List TypeTables) : Type 0 where
  pub count : length all ≡ length rec.site_type_list
  pub each : (i : ℕ) (t : SiteType) (tables : TypeTables) → slice_get rec.site_type_list i ≡ Some t
      → slice_get all i ≡ Some tables → AreTypeTables rec t tables
