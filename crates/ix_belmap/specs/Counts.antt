-- How many BELs admit a cell type, and whether they are enough.
use Rattle.std.specs.Prelude.{◌≡◌, ◌<◌, ◌≤◌, ℕ, List, length, slice_get, Bool, nat_eq, Option}
use Rattle.std.specs.Prelude.{Some, None, is_some, option_map, option_and_then, unwrap_or}
use Rattle.std.specs.List.{count_by, range_with_len, sum_by}
use Rattle.ix_rec.specs.declared.device.DeviceRec.{DeviceRec}
use Rattle.ix_rec.specs.declared.device.SiteType.{SiteType}
use Rattle.ix_rec.specs.declared.flow.FlatCell.{FlatCell}
use Rattle.ix_device.specs.Lookups.{sites_of, type_of_site}
use Rattle.ix_device.specs.Admission.{pins_in}
use Rattle.ix_belmap.specs.declared.counts.Short.{Short}

-- a BEL of a site type, by its number, admits the cell type
abbrev pub admits : DeviceRec → (ty : ℕ) → SiteType → (bel : ℕ) → Bool
admits rec ty t bel = is_some (pins_in rec ty bel t)

-- how many BELs of a site type admit the cell type
unfoldable pub bels_in_type : DeviceRec → (ty : ℕ) → SiteType → ℕ
bels_in_type rec ty t = count_by (admits rec ty t) (range_with_len 0 (length t.bels))

-- how many BELs of a site do
unfoldable pub bels_at : DeviceRec → (ty site : ℕ) → ℕ
bels_at rec ty site = unwrap_or (option_map (bels_in_type rec ty)
    (option_and_then (λ t. slice_get rec.site_type_list t) (type_of_site rec site))) 0

-- how many pairs of a site and a BEL of it admit the cell type
unfoldable pub bels_of_device : DeviceRec → (ty : ℕ) → ℕ
bels_of_device rec ty = sum_by (bels_at rec ty) (range_with_len 0 (length (sites_of rec)))

-- how many cells are of a type
unfoldable pub cells_of_type : (ty : ℕ) → List FlatCell → ℕ
cells_of_type ty cells = count_by (λ cell. nat_eq cell.ty ty) cells

-- no more cells of a type than BELs that admit it
abbrev pub AreEnough : DeviceRec → List FlatCell → (ty : ℕ) → Type 0
AreEnough rec cells ty = cells_of_type ty cells ≤ bels_of_device rec ty

-- the first type, by first cell, that has more cells than BELs that admit it, with both counts
pub record IsFirstShort (rec : DeviceRec) (all : List FlatCell) (short : Short) : Type 0 where
  pub place : ℕ
  pub cell : FlatCell
  pub at : slice_get all place ≡ Some cell
  pub kind : short.kind ≡ cell.ty
  pub earlier : (q : ℕ) (other : FlatCell) → q < place → slice_get all q ≡ Some other
      → AreEnough rec all other.ty
  pub cells : short.cells ≡ cells_of_type short.kind all
  pub bels : short.bels ≡ bels_of_device rec short.kind
  pub fewer : short.bels < short.cells

-- no type has too few BELs
abbrev pub NoneShort : DeviceRec → List FlatCell → Type 0
NoneShort rec cells = (q : ℕ) (cell : FlatCell) → slice_get cells q ≡ Some cell
    → AreEnough rec cells cell.ty

abbrev pub IsShortTold : DeviceRec → List FlatCell → Option Short → Type 0
IsShortTold rec cells None = NoneShort rec cells
IsShortTold rec cells (Some short) = IsFirstShort rec cells short
