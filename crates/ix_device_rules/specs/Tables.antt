-- What tables of keys say of a device.
use Rattle.std.specs.Prelude.{◌≡◌, ℕ, List, [], ◌∷◌, nat_eq, slice_get, Some}
use Rattle.std.specs.List.{list_any}
use Rattle.ix_message.specs.Indexes.{Step, asked}
use Rattle.ix_rec.specs.declared.device.TileType.{TileType}
use Rattle.ix_rec.specs.declared.device.DeviceRec.{DeviceRec}
use Rattle.ix_rec.specs.declared.device.SiteType.{SiteType}
use Rattle.ix_keys.specs.declared.key.Key.{Key}
use Rattle.ix_keys.specs.Keys.{key, has_key}
use Rattle.ix_device_rules.specs.Rules.{has_bel, has_pin}

-- the table has just the keys that these are
pub record SameKeys (table keys : List Key) : Type 0 where
  pub same : (k : Key) → has_key table k ≡ has_key keys k

-- the table has the BELs of this site type under its number
abbrev pub KnowsBels : List Key → ℕ → SiteType → Type 0
KnowsBels table number t = (bel : ℕ) → has_key table (key number 0 bel) ≡ has_bel t bel

-- the table has the BEL pins of this site type under its number
abbrev pub KnowsPins : List Key → ℕ → SiteType → Type 0
KnowsPins table number t = (bel pin : ℕ) → has_key table (key number bel pin) ≡ has_pin t bel pin

-- the table has the wires of this tile type under its number
abbrev pub KnowsWires : List Key → ℕ → TileType → Type 0
KnowsWires table number t = (wire : ℕ) → has_key table (key number 0 wire)
    ≡ list_any (nat_eq wire) t.wires

-- a name is to be that of a wire of the tile type of this number
abbrev pub wire_is_there : List Key → ℕ → ℕ → List Step
wire_is_there table number wire = asked "SiteTypeInTileType" "primaryPinsToTileWires"
    (has_key table (key number 0 wire)) ∷ []

-- the table knows each thing of a list under its place
abbrev pub EachKnown : {A : Type 0} → (List Key → ℕ → A → Type 0) → List Key → List A → Type 0
EachKnown {A} Knows table xs = (number : ℕ) (x : A) → slice_get xs number ≡ Some x
    → Knows table number x

-- the tables have the BELs and the BEL pins of each site type, and the wires of each tile type
pub record KnowsDevice (rec : DeviceRec) (bel_table pin_table wire_table : List Key) : Type 0 where
  pub bels : EachKnown KnowsBels bel_table rec.site_type_list
  pub pins : EachKnown KnowsPins pin_table rec.site_type_list
  pub wires : EachKnown KnowsWires wire_table rec.tile_type_list
