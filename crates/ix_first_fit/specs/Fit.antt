-- First fit: each cell, in order, takes the first BEL of a site that is free and admits it.
use Rattle.std.specs.Prelude.{◌≡◌, ◌<◌, ◌≤◌, ℕ, List, length, take, slice_get, true, false, Some}
use Rattle.ix_rec.specs.declared.device.DeviceRec.{DeviceRec}
use Rattle.ix_rec.specs.declared.flow.FlatCell.{FlatCell}
use Rattle.ix_first_fit.specs.declared.cell.Spot.{Spot}
use Rattle.ix_first_fit.specs.Spots.{admits, IsBefore, is_taken, count_bels, cells_of}

-- admits the type, is free, and each before it that admits the type is taken
pub record IsFirstFree (rec : DeviceRec) (taken : List Spot) (ty : ℕ) (p : Spot) : Type 0 where
  pub admitted : admits rec ty p ≡ true
  pub free : is_taken taken p ≡ false
  pub first : (q : Spot) → IsBefore q p → admits rec ty q ≡ true → is_taken taken q ≡ true

-- The first cells have these places, each the first that those before it leave.
pub record FitFirst (rec : DeviceRec) (cells : List FlatCell) (places : List Spot) : Type 0 where
  pub each : (k : ℕ) (c : FlatCell) (p : Spot) → slice_get cells k ≡ Some c
      → slice_get places k ≡ Some p → IsFirstFree rec (take k places) c.ty p

-- no more cells of a type than the BELs that admit it
abbrev pub Suffices : DeviceRec → List FlatCell → ℕ → Type 0
Suffices rec cells ty = cells_of ty cells ≤ count_bels rec ty

abbrev pub AllSuffice : DeviceRec → List FlatCell → Type 0
AllSuffice rec cells = (k : ℕ) (c : FlatCell) → slice_get cells k ≡ Some c → Suffices rec cells c.ty

-- The first type, by first cell, that has more cells than the BELs that admit it, with both counts.
pub record IsTooFew (rec : DeviceRec) (cells : List FlatCell) (kind n bels : ℕ) : Type 0 where
  pub place : ℕ
  pub cell : FlatCell
  pub at : slice_get cells place ≡ Some cell
  pub kind_is : kind ≡ cell.ty
  pub earlier : (j : ℕ) (c : FlatCell) → j < place → slice_get cells j ≡ Some c
      → Suffices rec cells c.ty
  pub cells_are : n ≡ cells_of kind cells
  pub bels_are : bels ≡ count_bels rec kind
  pub fewer : bels < n

-- No type has too few BELs, the cells before this one fit, and each BEL that admits its type is
-- taken by them.
pub record IsStuck (rec : DeviceRec) (cells : List FlatCell) (k : ℕ) : Type 0 where
  pub enough : AllSuffice rec cells
  pub places : List Spot
  pub fit : FitFirst rec cells places
  pub count : length places ≡ k
  pub cell : FlatCell
  pub at : slice_get cells k ≡ Some cell
  pub full : (p : Spot) → admits rec cell.ty p ≡ true → is_taken places p ≡ true
