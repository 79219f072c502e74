-- What follows from the definitions on the numbers of LUT elements.
use Rattle.std.specs.Prelude.{◌≡◌, ℕ, slice_get, Some}
use Rattle.ix_num.specs.Numbers.{NameNumber}
use Rattle.ix_rec.specs.declared.device.DeviceRec.{DeviceRec}
use Rattle.ix_rec.specs.declared.phys.Phys.{Phys}
use Rattle.ix_rec.specs.declared.phys.SiteInstance.{SiteInstance}
use Rattle.ix_legal.specs.Placements.{IsPlaced}
use Rattle.ix_legal.specs.Sites.{ElementNumber}
use Rattle.ix_legal.specs.Spots.{Everywhere}
use Rattle.ix_element_numbers.specs.Numbers.{IsNumber}

-- A number is of one element.
abbrev pub ElementIsOne : Type 0
ElementIsOne = (rec : DeviceRec) (phys : Phys) (i j : ℕ) (site other : NameNumber)
    (element more : ElementNumber) (number : ℕ) → IsNumber rec phys i site element number
    → IsNumber rec phys j other more number → (i ≡ j) × (element ≡ more) × (site ≡ other)

-- An element has one number at most, in a netlist that keeps L2.
abbrev pub NumberIsOne : Type 0
NumberIsOne = (rec : DeviceRec) (phys : Phys) → Everywhere (IsPlaced rec phys) → (i j : ℕ)
    (site : NameNumber) (element : ElementNumber) (number other : ℕ)
    → IsNumber rec phys i site element number → IsNumber rec phys j site element other
    → (i ≡ j) × (number ≡ other)

-- A site has one instance at most, in a netlist that keeps L2.
abbrev pub InstanceIsOne : Type 0
InstanceIsOne = (rec : DeviceRec) (phys : Phys) → Everywhere (IsPlaced rec phys) → (i j : ℕ)
    (one other : SiteInstance) → slice_get phys.site_insts i ≡ Some one
    → slice_get phys.site_insts j ≡ Some other → one.site ≡ other.site → i ≡ j
