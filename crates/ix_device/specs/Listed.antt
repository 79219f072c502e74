-- What the table of admissions says: for each cell type, site type and BEL that a pin map lists,
-- the first such map.
use Rattle.std.specs.Prelude.{◌≡◌, ℕ, ◌+◌, slice_get, Bool, ◌&&◌, List, [], ◌∷◌, Option, Some, None}
use Rattle.std.specs.Prelude.{nat_eq, if◌then◌else◌}
use Rattle.std.specs.List.{list_any, list_all}
use Rattle.ix_keys.specs.declared.key.Key.{Key}
use Rattle.ix_keys.specs.Keys.{key}
use Rattle.ix_first.specs.declared.by_key.FirstByKey.{FirstByKey}
use Rattle.ix_first.specs.First.{value_at, or_later, or_found}
use Rattle.ix_rec.specs.declared.device.SiteTypeBelEntry.{SiteTypeBelEntry}
use Rattle.ix_rec.specs.declared.device.CellBelPinEntry.{CellBelPinEntry}
use Rattle.ix_device_rules.specs.Rules.{has_pin}
use Rattle.ix_device.specs.declared.admissions.CellPinMap.{CellPinMap}
use Rattle.ix_rec.specs.declared.device.SiteType.{SiteType}
use Rattle.ix_rec.specs.declared.device.CellBelMapping.{CellBelMapping}
use Rattle.ix_rec.specs.declared.device.CommonCellBelPinMaps.{CommonCellBelPinMaps}
use Rattle.ix_device.specs.declared.admissions.Listing.{Listing}
use Rattle.ix_device.specs.Admission.{lists_bel, fits_bel}

-- a pin map by its places, and whether it fits the BEL
abbrev pub listing : (mapping pin_map : ℕ) → Bool → Listing
listing mapping pin_map fits = record { mapping = mapping; pin_map = pin_map; fits = fits }

-- A key of the table is a site type's number, a BEL's name and a cell type's. It is one of a site
-- type, a cell type and these BELs.
abbrev pub names_one : (site_type cell : ℕ) → List ℕ → Key → Bool
names_one site_type cell bels q = nat_eq site_type q.owner
    && (list_any (nat_eq q.part) bels && nat_eq cell q.name)

-- an entry lists the BEL of this name of the site type
abbrev pub entry_lists : SiteType → ℕ → SiteTypeBelEntry → Bool
entry_lists t bel e = nat_eq e.site_type t.name && list_any (nat_eq bel) e.bels

-- what a pin map puts of each BEL of each site type, by these of its entries
abbrev pub PutsMap : List SiteType → (old new : FirstByKey Listing) → CellPinMap
    → List SiteTypeBelEntry → List CellBelPinEntry → Type 0
PutsMap types old new map entries pins =
    (k : ℕ) (t : SiteType) → slice_get types k ≡ Some t → (bel cell : ℕ)
    → value_at new (key k bel cell) ≡ or_later (value_at old (key k bel cell))
    (list_any (entry_lists t bel) entries && nat_eq map.cell cell)
    (listing map.mapping map.pin_map (map.differ
    && list_all (λ p. has_pin t bel p.bel_pin) pins))

-- the first of these pin maps that lists the BEL, the first of them having this place
abbrev pub listed_in : SiteType → (bel mapping place : ℕ) → List CommonCellBelPinMaps
    → Option Listing
listed_in t bel mapping place [] = None
listed_in t bel mapping place (m ∷ ms) = if lists_bel t bel m
    then Some (listing mapping place (fits_bel t bel m.pins))
    else listed_in t bel mapping (place + 1) ms

-- the same of the first of these mappings that is of the cell type
abbrev pub listed_from : SiteType → (bel cell place : ℕ) → List CellBelMapping → Option Listing
listed_from t bel cell place [] = None
listed_from t bel cell place (m ∷ ms) = if nat_eq m.cell cell
    then listed_in t bel place 0 m.common_pins else listed_from t bel cell (place + 1) ms

-- what a cell type's pin maps put, the cell type having this place
abbrev pub PutsMapping : List SiteType → (old new : FirstByKey Listing) → (place cell : ℕ)
    → List CommonCellBelPinMaps → Type 0
PutsMapping types old new place cell maps =
    (k : ℕ) (t : SiteType) → slice_get types k ≡ Some t → (bel q : ℕ)
    → value_at new (key k bel q) ≡ or_found (value_at old (key k bel q)) (nat_eq cell q)
    (listed_in t bel place 0 maps)

-- the table lists what the mappings list
abbrev pub AreListings : List SiteType → FirstByKey Listing → List CellBelMapping → Type 0
AreListings types table mappings =
    (k : ℕ) (t : SiteType) → slice_get types k ≡ Some t → (bel cell : ℕ)
    → value_at table (key k bel cell) ≡ listed_from t bel cell 0 mappings
