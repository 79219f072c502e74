-- Numbers of a list that stand in it before.
use Rattle.std.specs.Prelude.{◌≡◌, ◌<◌, ℕ, List, slice_get, Some}

-- what is at this place stands before it
pub record IsSecond (names : List ℕ) (place : ℕ) : Type 0 where
  pub name : ℕ
  pub is : slice_get names place ≡ Some name
  pub earlier : ℕ
  pub before : earlier < place
  pub there : slice_get names earlier ≡ Some name

-- none of the first so many does
abbrev pub NoneSecond : (names : List ℕ) → (count : ℕ) → Type 0
NoneSecond names count = (place : ℕ) → place < count → ¬ IsSecond names place

-- the first place that does
pub record IsFirstSecond (names : List ℕ) (place : ℕ) : Type 0 where
  pub second : IsSecond names place
  pub first : NoneSecond names place
