-- The BELs of sites, and which of them admit a cell type.
use Rattle.std.specs.Prelude.{◌≡◌, ◌<◌, ℕ, zero, suc, ◌+◌, List, length, slice_get, Bool, ◌&&◌}
use Rattle.std.specs.Prelude.{nat_eq, Option, is_some, option_map, unwrap_or, if◌then◌else◌}
use Rattle.std.specs.Prelude.{option_and_then, ◌⊎◌}
use Rattle.std.specs.List.{list_any, count_by}
use Rattle.ix_rec.specs.declared.device.DeviceRec.{DeviceRec}
use Rattle.ix_rec.specs.declared.device.SiteType.{SiteType}
use Rattle.ix_rec.specs.declared.flow.FlatCell.{FlatCell}
use Rattle.ix_device.specs.Lookups.{sites_of, type_of_site}
use Rattle.ix_device.specs.Admission.{pins_in}
use Rattle.ix_first_fit.specs.declared.cell.Spot.{Spot}

abbrev pub spot : (site bel : ℕ) → Spot
spot site bel = record { site = site; bel = bel }

-- the type of a site
unfoldable pub type_at : DeviceRec → ℕ → Option SiteType
type_at rec site = option_and_then (λ t. slice_get rec.site_type_list t) (type_of_site rec site)

-- the pins by which a BEL of a site takes a cell type; none where it doesn't admit the type
unfoldable pub pins_at : DeviceRec → ℕ → Spot → Option (List (ℕ × ℕ))
pins_at rec ty p = option_and_then (λ t. pins_in rec ty p.bel t) (type_at rec p.site)

unfoldable pub admits : DeviceRec → ℕ → Spot → Bool
admits rec ty p = is_some (pins_at rec ty p)

-- by site, then by BEL
abbrev pub IsBefore : Spot → Spot → Type 0
IsBefore a b = (a.site < b.site) ⊎ ((a.site ≡ b.site) × (a.bel < b.bel))

abbrev pub spot_eq : Spot → Spot → Bool
spot_eq a b = nat_eq a.site b.site && nat_eq a.bel b.bel

abbrev pub is_taken : List Spot → Spot → Bool
is_taken taken p = list_any (λ q. spot_eq p q) taken

-- how many numbers below this one pass
unfoldable pub count_below : (ℕ → Bool) → ℕ → ℕ
count_below test zero = 0
count_below test (suc n) = count_below test n + (if test n then 1 else 0)

-- the sum over the numbers below this one
unfoldable pub sum_below : (ℕ → ℕ) → ℕ → ℕ
sum_below f zero = 0
sum_below f (suc n) = sum_below f n + f n

abbrev pub bels_of_site : DeviceRec → ℕ → ℕ
bels_of_site rec site = unwrap_or (option_map (λ t. length t.bels) (type_at rec site)) 0

-- how many BELs of a site admit a cell type
unfoldable pub takers_at : DeviceRec → (ty site : ℕ) → ℕ
takers_at rec ty site = count_below (λ bel. admits rec ty (spot site bel)) (bels_of_site rec site)

-- how many BELs of all sites admit a cell type
unfoldable pub count_bels : DeviceRec → ℕ → ℕ
count_bels rec ty = sum_below (λ site. takers_at rec ty site) (length (sites_of rec))

-- how many cells are of a type
unfoldable pub cells_of : ℕ → List FlatCell → ℕ
cells_of ty cells = count_by (λ c. nat_eq c.ty ty) cells
