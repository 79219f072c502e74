-- Places of things in a list, by their names.
use Rattle.std.specs.Prelude.{◌≡◌, ◌<◌, ℕ, List, nat_eq, Some}
use Rattle.std.specs.List.{position}
use Rattle.ix_num.specs.Numbers.{NameNumber}
use Rattle.ix_rec.specs.declared.phys.Property.{Property}
use Rattle.ix_rec.specs.declared.phys.SiteInstance.{SiteInstance}
use Rattle.ix_first.specs.First.{value_of}
use Rattle.ix_first.specs.declared.by_id.FirstById.{FirstById}

abbrev pub site_of : SiteInstance → NameNumber
site_of instance = instance.site

abbrev pub key_of : Property → NameNumber
key_of property = property.key

-- among so many names, the first thing of each name
abbrev pub ArePlacesByName : {A : Type 0} → (name_of : A → NameNumber) → List A → (names : ℕ)
    → FirstById ℕ → Type 0
ArePlacesByName name_of xs names places = (name : NameNumber) → name < names
    → value_of places name ≡ Some (position (λ x. nat_eq (name_of x) name) xs)
