-- What first fit keeps: each cell has a place of its own, and each used site one instance.
use Rattle.std.specs.Prelude.{◌≡◌, ℕ, List, length, slice_get, nat_eq, true, Some}
use Rattle.std.specs.List.{list_any}
use Rattle.ix_rec.specs.declared.device.DeviceRec.{DeviceRec}
use Rattle.ix_rec.specs.declared.phys.CellPlacement.{CellPlacement}
use Rattle.ix_rec.specs.declared.phys.Phys.{Phys}
use Rattle.ix_rec.specs.declared.flow.FlatCell.{FlatCell}
use Rattle.ix_device.specs.Lookups.{name_of_site}
use Rattle.ix_first_fit.specs.declared.cell.Spot.{Spot}
use Rattle.ix_first_fit.specs.Spots.{admits}
use Rattle.ix_first_fit.specs.Netlist.{bel_name, used_sites, IsPinMap, AreInstances}
use Rattle.ix_first_fit.specs.Answers.{IsFitted}

-- a list with no item twice
abbrev pub Differ : {A : Type 0} → List A → Type 0
Differ {A} xs = (i j : ℕ) (x : A) → slice_get xs i ≡ Some x → slice_get xs j ≡ Some x → i ≡ j

-- the placement is this cell's, on a BEL that admits its type, with the whole pin map
pub record IsOnPlace (rec : DeviceRec) (c : FlatCell) (p : Spot) (m : CellPlacement) : Type 0 where
  pub cell_name : m.cell_name ≡ c.name
  pub ty : m.ty ≡ c.ty
  pub site : name_of_site rec p.site ≡ Some m.site
  pub bel : bel_name rec p ≡ Some m.bel
  pub pins : IsPinMap rec c.ty p m.bel m.pin_map
  pub admitted : admits rec c.ty p ≡ true

pub record HasOwnPlaces (rec : DeviceRec) (cells : List FlatCell) (phys : Phys) : Type 0 where
  pub places : List Spot
  pub placements_count : length phys.placements ≡ length cells
  pub places_count : length places ≡ length cells
  pub each : (k : ℕ) (c : FlatCell) (p : Spot) (m : CellPlacement) → slice_get cells k ≡ Some c
      → slice_get places k ≡ Some p → slice_get phys.placements k ≡ Some m → IsOnPlace rec c p m
  pub apart : Differ places
  pub all_used : (k : ℕ) (p : Spot) → slice_get places k ≡ Some p
      → list_any (λ s. nat_eq p.site s) (used_sites places) ≡ true
  pub sites_differ : Differ (used_sites places)
  pub instances : AreInstances rec places phys.site_insts

abbrev pub FitsHaveOwnPlaces : Type 0
FitsHaveOwnPlaces = (rec : DeviceRec) (cells : List FlatCell) (phys : Phys)
    → IsFitted rec cells phys → HasOwnPlaces rec cells phys
