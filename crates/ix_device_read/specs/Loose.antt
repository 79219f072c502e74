-- The texts of a message that stand behind pointers of their own and not in its string table, and
-- what it is to add texts to the names of a run.
use Rattle.std.specs.Prelude.{◌≡◌, ℕ, ◌+◌, ◌-◌, ◌^◌, ◌<◌, ◌≤◌, List, [], ◌∷◌, ◌++◌, length, Some}
use Rattle.std.specs.Prelude.{Result, Ok, Err, slice_get}
use Rattle.std.specs.List.{AllByRecursion, flat_map, sum_by}
use Rattle.ix_strings.specs.Names.{with_name, KeepsNumbers}
use Rattle.ix_message.specs.Shape.{Text, Struct, Pointers, Value, Parts, struct_of, no_more, text}
use Rattle.ix_message.specs.Shape.{texts, numbers, struct, struct_or_none, boxed, structs, branches}
use Rattle.ix_message.specs.Shape.{string_table, unread}
use Rattle.ix_message.specs.Names.{option_uses}
use Rattle.ix_device_read.specs.Premises.{IsKnown}

-- the texts behind pointers of a struct and of the structs behind its pointers, in reading order
unfoldable mutual
  pub loose_texts : (s : Struct) → Value ℕ s → List Text
  loose_texts (struct_of called fields ps) v = loose_parts ps v.1

  pub loose_parts : (ps : Pointers) → Parts ℕ ps → List Text
  loose_parts no_more v = []
  loose_parts (text c ps) v = v.0 ∷ loose_parts ps v.1
  loose_parts (texts c ps) v = v.0 ++ loose_parts ps v.1
  loose_parts (numbers c target kind ps) v = loose_parts ps v.1
  loose_parts (struct c s ps) v = loose_texts s v.0 ++ loose_parts ps v.1
  loose_parts (struct_or_none c s ps) v = option_uses (loose_texts s) v.0 ++ loose_parts ps v.1
  loose_parts (boxed c kind inner s ps) v = flat_map (loose_texts s) v.0 ++ loose_parts ps v.1
  loose_parts (structs c target s ps) v = flat_map (loose_texts s) v.0 ++ loose_parts ps v.1
  loose_parts (branches c kind fields ps) v = loose_parts ps v.1
  loose_parts (string_table c ps) v = loose_parts ps v
  loose_parts (unread c ps) v = loose_parts ps v

-- An empty text may stand in a file for nothing, behind a pointer that is zero; each other text
-- takes a word of it.
abbrev pub paid_text : Text → ℕ
paid_text [] = 0
paid_text (b ∷ bs) = 1

-- how many texts take a word of the file
abbrev pub paid_texts : List Text → ℕ
paid_texts ts = sum_by paid_text ts

-- how many names there are once the empty text is one of them
abbrev pub reach : List Text → ℕ
reach names = length (with_name names [])

-- There is room among the names for these texts.
abbrev pub HasRoom : List Text → List Text → Type 0
HasRoom ts names = reach names + paid_texts ts < 2 ^ 32 - 1

-- The names grew by no other texts than these: each of them but the empty one adds a name at most.
pub record Grows (ts old new : List Text) : Type 0 where
  pub keeps : KeepsNumbers old new
  pub most : reach new ≤ reach old + paid_texts ts

-- the names once these texts were added, one after the other; a text that is one of the names
-- already changes nothing
abbrev pub with_names : List Text → List Text → List Text
with_names names [] = names
with_names names (t ∷ ts) = with_names (with_name names t) ts

-- These texts are names now.
pub record Knows (ts old new : List Text) : Type 0 where
  pub exact : new ≡ with_names old ts
  pub grows : Grows ts old new
  pub known : AllByRecursion (IsKnown new) ts

-- These texts were added to the names, or some of them before memory was wanting.
abbrev pub Adds : {A E : Type 0} → Result A E → List Text → List Text → List Text → Type 0
Adds (Ok x) ts old new = Knows ts old new
Adds (Err e) ts old new = Grows ts old new

-- these are the numbers of the texts
abbrev pub AreNumbersOf : List Text → List ℕ → List Text → Type 0
AreNumbersOf names [] [] = Unit {0}
AreNumbersOf names [] (t ∷ ts) = ⊥
AreNumbersOf names (id ∷ ids) [] = ⊥
AreNumbersOf names (id ∷ ids) (t ∷ ts) = (slice_get names id ≡ Some t) × AreNumbersOf names ids ts
