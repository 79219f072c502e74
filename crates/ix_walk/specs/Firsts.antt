-- The first item of a list that isn't as it should be.
use Rattle.std.specs.Prelude.{◌≡◌, ◌<◌, ℕ, List, length, slice_get, Option, Some, None}

module _ {A : Type 0} (Fits : ℕ → A → Type 0) (xs : List A) where
  -- the first so many are as they should be, by their places
  abbrev pub AllFit : (count : ℕ) → Type 0
  AllFit count = (i : ℕ) (x : A) → i < count → slice_get xs i ≡ Some x → Fits i x

  pub record IsFirstMisfit (i : ℕ) : Type 0 where
    pub item : A
    pub item_is : slice_get xs i ≡ Some item
    pub misfits : ¬ Fits i item
    pub before : AllFit i

  -- what is told of a list: none where all items are as they should be, else the first that isn't
  abbrev pub TellsMisfit : Option ℕ → Type 0
  TellsMisfit None = AllFit (length xs)
  TellsMisfit (Some i) = IsFirstMisfit i
