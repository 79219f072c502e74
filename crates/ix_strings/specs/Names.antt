-- A table of names is the list of its texts. No two are alike, and a name's number is its place.
use Rattle.std.specs.Prelude.{◌≡◌, ℕ, ◌^◌, ◌<◌, Bool, List, [], ◌∷◌, ◌++◌, length, Option, Some}
use Rattle.std.specs.Prelude.{slice_get, if◌then◌else◌}
use Rattle.std.specs.List.{list_any, position, position_or_len}
use Rattle.std.specs.Str.{bytes_eq}

-- whether the text is one of the names
abbrev pub has_name : List (List ℕ) → List ℕ → Bool
has_name names text = list_any (bytes_eq text) names

-- the number of a text that is one of the names
abbrev pub number_of : List (List ℕ) → List ℕ → Option ℕ
number_of names text = position (bytes_eq text) names

-- the number of a text once it is one of the names: its own, or the next one
abbrev pub number_once_added : List (List ℕ) → List ℕ → ℕ
number_once_added names text = position_or_len (bytes_eq text) names

-- the names with a text: as they are where it is one of them, else with it last
abbrev pub with_name : List (List ℕ) → List ℕ → List (List ℕ)
with_name names text = if has_name names text then names else names ++ text ∷ []

-- no two names are alike: numbers of one text are equal
abbrev pub AllDiffer : List (List ℕ) → Type 0
AllDiffer names = (i j : ℕ) (text : List ℕ) → slice_get names i ≡ Some text
    → slice_get names j ≡ Some text → i ≡ j

-- each name keeps its number
abbrev pub KeepsNumbers : List (List ℕ) → List (List ℕ) → Type 0
KeepsNumbers old new = (id : ℕ) (text : List ℕ) → slice_get old id ≡ Some text
    → slice_get new id ≡ Some text

-- what holds of the names in each table
pub record IsTable (names : List (List ℕ)) : Type 0 where
  pub few : length names < 2 ^ 32
  pub differ : AllDiffer names
