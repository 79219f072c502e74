-- What is known while cells and sites are counted.
use Rattle.std.specs.Prelude.{◌≡◌, ◌<◌, ◌^◌, ℕ, zero, suc, ◌+◌, List, length, slice_get, Bool}
use Rattle.std.specs.Prelude.{false, nat_eq, Option, Some, option_map, unwrap_or, if◌then◌else◌}
use Rattle.std.specs.HashMap.{get}
use Rattle.ix_rec.specs.declared.device.DeviceRec.{DeviceRec}
use Rattle.ix_device.specs.Lookups.{sites_of, type_of_site}
use Rattle.ix_belmap.specs.declared.cells.CellCounts.{CellCounts}

-- how many numbers below this one pass
unfoldable pub count_below : (ℕ → Bool) → ℕ → ℕ
count_below test zero = 0
count_below test (suc n) = count_below test n + (if test n then 1 else 0)

-- the sum over the numbers below this one
unfoldable pub sum_below : (ℕ → ℕ) → ℕ → ℕ
sum_below f zero = 0
sum_below f (suc n) = sum_below f n + f n

-- the count of a cell type
abbrev pub of_type : CellCounts → ℕ → Option ℕ
of_type counts ty = get nat_eq counts.counts ty

abbrev pub is_of_type : DeviceRec → (t site : ℕ) → Bool
is_of_type rec t site = unwrap_or (option_map (nat_eq t) (type_of_site rec site)) false

-- how many sites are of a site type
unfoldable pub sites_of_type : DeviceRec → (t : ℕ) → ℕ
sites_of_type rec t = count_below (is_of_type rec t) (length (sites_of rec))

-- the numbers of sites of all site types
pub record AreSiteCounts (rec : DeviceRec) (counts : List ℕ) : Type 0 where
  pub count : length counts ≡ length rec.site_type_list
  pub each : (t : ℕ) → t < length rec.site_type_list
      → slice_get counts t ≡ Some (sites_of_type rec t)
  pub few : length (sites_of rec) < 2 ^ 32
