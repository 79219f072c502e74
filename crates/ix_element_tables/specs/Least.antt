-- The first element that breaks L9.
use Rattle.std.specs.Prelude.{◌≡◌, ◌⊎◌, ◌<◌, ℕ, List, slice_get, Option, Some, None, IfSome}
use Rattle.ix_message.specs.Shape.{Text}
use Rattle.ix_rec.specs.declared.device.DeviceRec.{DeviceRec}
use Rattle.ix_rec.specs.declared.phys.CellPlacement.{CellPlacement}
use Rattle.ix_rec.specs.declared.phys.Phys.{Phys}
use Rattle.ix_rec.specs.declared.phys.SiteInstance.{SiteInstance}
use Rattle.ix_legal.specs.Sites.{ElementNumber}
use Rattle.ix_element_numbers.specs.declared.numbers.InElement.{InElement}
use Rattle.ix_element_tables.specs.Kept.{IsPlacedIn, KeepsTable}

-- an element comes before another in the walk; where there is no other it does
abbrev pub IsEarlier : (instance : ℕ) → ElementNumber → Option InElement → Type 0
IsEarlier instance element None = Unit {0}
IsEarlier instance element (Some other) = (instance < other.instance)
    ⊎ ((instance ≡ other.instance) × (element < other.element))

-- a cell in an element breaks L9
pub record IsBroken (names : List Text) (rec : DeviceRec) (phys : Phys) (at : InElement) : Type 0
  where
    pub instance : SiteInstance
    pub instance_is : slice_get phys.site_insts at.instance ≡ Some instance
    pub k : ℕ
    pub placement : CellPlacement
    pub placement_is : slice_get phys.placements k ≡ Some placement
    pub placed : IsPlacedIn rec instance.site at.element placement
    pub breaks : ¬ KeepsTable names rec phys instance.site at.element placement

-- The first element that the first so many placements break, if there is one.
pub record IsLeast (names : List Text) (rec : DeviceRec) (phys : Phys) (count : ℕ)
    (first : Option InElement) : Type 0 where
  pub broken : IfSome first (IsBroken names rec phys)
  pub kept : (k i : ℕ) (placement : CellPlacement) (instance : SiteInstance)
      (element : ElementNumber) → k < count → slice_get phys.placements k ≡ Some placement
      → slice_get phys.site_insts i ≡ Some instance
      → IsPlacedIn rec instance.site element placement → IsEarlier i element first
      → KeepsTable names rec phys instance.site element placement
