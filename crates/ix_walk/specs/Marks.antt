-- Marks of names.
use Rattle.std.specs.Prelude.{◌≡◌, List, map, Bool, false, nat_eq, slice_index_or}
use Rattle.std.specs.List.{list_any}
use Rattle.ix_num.specs.Numbers.{NameNumber}

-- what contracts see: a mark for each name
abbrev pub Marks : Type 0
Marks = List Bool

-- a name was met; one past the last wasn't
unfoldable pub has_mark : Marks → NameNumber → Bool
has_mark marks name = slice_index_or marks name false

-- those that were met are the names of these items
abbrev pub AreNamesOf : {A : Type 0} → (name_of : A → NameNumber) → List A → Marks → Type 0
AreNamesOf name_of xs marks = (name : NameNumber)
    → has_mark marks name ≡ list_any (nat_eq name) (map name_of xs)
