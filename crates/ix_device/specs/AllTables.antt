-- What all the tables of a device say of its record.
use Rattle.std.specs.Prelude.{◌≡◌, ◌<◌, ◌^◌, ℕ, length, slice_get, position, nat_eq, Some}
use Rattle.ix_num.specs.declared.resource.Constant.TheVariants.{Gnd, Vcc}
use Rattle.ix_keys.specs.Keys.{key, name_key}
use Rattle.ix_first.specs.First.{value_at}
use Rattle.ix_rec.specs.declared.device.DeviceRec.{DeviceRec}
use Rattle.ix_rec.specs.declared.device.TileType.{TileType}
use Rattle.ix_device.specs.declared.tables.Tables.{Tables}
use Rattle.ix_device.specs.Lookups.{tile_named, site_type_number, wire_of_type}
use Rattle.ix_device.specs.Elements.{lut_inputs_of}
use Rattle.ix_device.specs.Sources.{has_constant}
use Rattle.ix_device.specs.Tables.{AreSites}
use Rattle.ix_device.specs.TypeTables.{AreAllTypeTables}
use Rattle.ix_device.specs.Numbered.{AreNumbered}
use Rattle.ix_device.specs.Listed.{AreListings}

pub record AreTables (rec : DeviceRec) (t : Tables) : Type 0 where
  pub tiles : (name : ℕ) → value_at t.tiles (name_key name) ≡ tile_named rec name
  pub site_types : (name : ℕ) → value_at t.site_types (name_key name) ≡ site_type_number rec name
  pub entries : AreSites rec t.entries
  pub few : length t.entries < 2 ^ 32
  pub sites : (name : ℕ) → value_at t.sites (name_key name)
      ≡ position (λ e. nat_eq e.name name) t.entries
  pub wires : (k : ℕ) (ty : TileType) → slice_get rec.tile_type_list k ≡ Some ty → (name : ℕ)
      → value_at t.wires (key k 0 name) ≡ wire_of_type name ty
  pub types : AreAllTypeTables rec t.types
  pub lut_types : (cell : ℕ) → value_at t.lut_types (name_key cell) ≡ lut_inputs_of rec cell
  pub elements : AreNumbered rec.lut_definitions.lut_elements t.elements
  pub listings : AreListings rec.site_type_list t.listings rec.cell_bel_map
  pub gnd : t.has_gnd ≡ has_constant rec Gnd
  pub vcc : t.has_vcc ≡ has_constant rec Vcc
