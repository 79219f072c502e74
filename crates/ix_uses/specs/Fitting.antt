-- What L2 asks of instances and placements, by their places in their lists.
use Rattle.std.specs.Prelude.{◌≡◌, ◌<◌, ℕ, List, take, length, slice_get, Some}
use Rattle.ix_num.specs.Numbers.{NameNumber}
use Rattle.ix_keys.specs.declared.key.Key.{Key}
use Rattle.ix_keys.specs.Keys.{has_key, key}
use Rattle.ix_rec.specs.declared.device.DeviceRec.{DeviceRec}
use Rattle.ix_rec.specs.declared.phys.Phys.{Phys}
use Rattle.ix_rec.specs.declared.phys.CellPlacement.{CellPlacement}
use Rattle.ix_rec.specs.declared.phys.SiteInstance.{SiteInstance}
use Rattle.ix_legal.specs.Placements.{InstanceFits, PlacementFits, has_cell}
use Rattle.ix_walk.specs.Marks.{Marks, AreNamesOf}
use Rattle.ix_walk.specs.Firsts.{AllFit}

abbrev pub site_of : SiteInstance → NameNumber
site_of instance = instance.site

abbrev pub cell_of : CellPlacement → NameNumber
cell_of placement = placement.cell_name

-- names of items are among so many
abbrev pub AreInside : {A : Type 0} → (name_of : A → NameNumber) → List A → (count : ℕ) → Type 0
AreInside {A} name_of xs count = (i : ℕ) (x : A) → slice_get xs i ≡ Some x → name_of x < count

abbrev pub InstanceFitsAt : DeviceRec → List SiteInstance → ℕ → SiteInstance → Type 0
InstanceFitsAt rec instances i instance = InstanceFits rec (take i instances) instance

abbrev pub AllInstancesFit : DeviceRec → Phys → Type 0
AllInstancesFit rec phys =
    AllFit (InstanceFitsAt rec phys.site_insts) phys.site_insts (length phys.site_insts)

abbrev pub PlacementFitsAt : DeviceRec → Phys → ℕ → CellPlacement → Type 0
PlacementFitsAt rec phys i placement = PlacementFits rec phys (take i phys.placements) placement

-- the keys are those of the BELs on which these cells are
abbrev pub AreKeysOf : List CellPlacement → List Key → Type 0
AreKeysOf placements bels = (site bel : NameNumber)
    → has_key bels (key site bel 0) ≡ has_cell placements site bel

-- the first so many instances fit, and their sites are marked
pub record AreUsed (rec : DeviceRec) (instances : List SiteInstance) (room count : ℕ)
    (sites : Marks) : Type 0 where
  pub fit : AllFit (InstanceFitsAt rec instances) instances count
  pub marked : AreNamesOf site_of (take count instances) sites
  pub many : length sites ≡ room

-- the first so many placements fit, their cells are marked, and their BELs are noted
pub record ArePlaced (rec : DeviceRec) (phys : Phys) (room count : ℕ) (cells : Marks)
    (bels : List Key) : Type 0 where
  pub fit : AllFit (PlacementFitsAt rec phys) phys.placements count
  pub marked : AreNamesOf cell_of (take count phys.placements) cells
  pub noted : AreKeysOf (take count phys.placements) bels
  pub many : length cells ≡ room
