-- Numbers of the LUT elements of a netlist's instances.
use Rattle.std.specs.Prelude.{◌≡◌, ◌<◌, ◌≤◌, ◌+◌, ◌*◌, ◌^◌, ℕ, List, length, take, slice_get}
use Rattle.std.specs.Prelude.{Some, None, option_map, unwrap_or}
use Rattle.std.specs.List.{sum_by}
use Rattle.ix_num.specs.Numbers.{NameNumber}
use Rattle.ix_rec.specs.declared.device.DeviceRec.{DeviceRec}
use Rattle.ix_rec.specs.declared.phys.CellPlacement.{CellPlacement}
use Rattle.ix_rec.specs.declared.phys.Phys.{Phys}
use Rattle.ix_rec.specs.declared.phys.SiteInstance.{SiteInstance}
use Rattle.ix_legal.specs.Sites.{ElementNumber, element_at, elements_at}
use Rattle.ix_table_keys.specs.Places.{ArePlacesByName, site_of}
use Rattle.ix_element_numbers.specs.declared.numbers.ElementNumbers.{ElementNumbers}
use Rattle.ix_element_numbers.specs.declared.numbers.InElement.{InElement}

-- how many elements the site of an instance has; a site that isn't there has none
abbrev pub elements_of_instance : DeviceRec → SiteInstance → ℕ
elements_of_instance rec instance = unwrap_or (option_map length (elements_at rec instance.site)) 0

-- how many the sites of the first so many instances have together
abbrev pub elements_before : DeviceRec → List SiteInstance → (count : ℕ) → ℕ
elements_before rec instances count = sum_by (elements_of_instance rec) (take count instances)

-- The elements of all instances are numbered from 0, by instance and then by their numbers in the
-- site's type: this is the number of an element of the site of an instance.
pub record IsNumber (rec : DeviceRec) (phys : Phys) (i : ℕ) (site : NameNumber)
    (element : ElementNumber) (number : ℕ) : Type 0 where
  pub instance : SiteInstance
  pub instance_is : slice_get phys.site_insts i ≡ Some instance
  pub site_is : instance.site ≡ site
  pub within : element < elements_of_instance rec instance
  pub number_is : number ≡ elements_before rec phys.site_insts i + element

-- where the numbers of the first so many instances begin, and how many there are
pub record AreBases (rec : DeviceRec) (instances : List SiteInstance) (done : ℕ) (bases : List ℕ)
    (count : ℕ) : Type 0 where
  pub all : length bases ≡ done
  pub each : (i base : ℕ) → slice_get bases i ≡ Some base → base ≡ elements_before rec instances i
  pub count_is : count ≡ elements_before rec instances done
  pub few : count ≤ done * 2 ^ 32

-- the numbers of the elements of a netlist
pub record AreNumbers (rec : DeviceRec) (phys : Phys) (seen : ElementNumbers) : Type 0 where
  pub names : ℕ
  pub by_name : ArePlacesByName site_of phys.site_insts names seen.instances
  pub sites : (k : ℕ) (placement : CellPlacement) → slice_get phys.placements k ≡ Some placement
      → placement.site < names
  pub bases : AreBases rec phys.site_insts (length phys.site_insts) seen.bases.items seen.count
  pub few : seen.count < 2 ^ 64

-- the element in which the cell of this placement is placed
pub record IsInElement (rec : DeviceRec) (phys : Phys) (k : ℕ) (at : InElement) : Type 0 where
  pub placement : CellPlacement
  pub placement_is : slice_get phys.placements k ≡ Some placement
  pub number : IsNumber rec phys at.instance placement.site at.element at.number
  pub place : ℕ
  pub is_in : element_at rec placement.site placement.bel ≡ Some (at.element, place)

-- it is placed in none
abbrev pub IsInNone : DeviceRec → Phys → (k : ℕ) → Type 0
IsInNone rec phys k = (placement : CellPlacement) → slice_get phys.placements k ≡ Some placement
    → element_at rec placement.site placement.bel ≡ None
