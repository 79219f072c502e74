-- What is known of a message once it was read and its texts are names: each text behind a pointer
-- is one of the names, and how many structs there are.
use Rattle.std.specs.Prelude.{ℕ, ◌+◌, List, Option, Some, None, IsSome}
use Rattle.std.specs.List.{AllByRecursion, sum_by}
use Rattle.ix_message.specs.Records.{IfThere}
use Rattle.ix_message.specs.Shape.{Text, Struct, Pointers, Branches, Value, Parts, struct_of}
use Rattle.ix_message.specs.Shape.{no_more, text, texts, numbers, struct, struct_or_none, boxed}
use Rattle.ix_message.specs.Shape.{structs, branches, string_table, unread, ends, branch}
use Rattle.ix_strings.specs.Names.{number_of}

-- the text is one of the names
abbrev pub IsKnown : List Text → Text → Type 0
IsKnown names t = IsSome (number_of names t)

-- each text behind a pointer of the struct, and of the structs behind its pointers, is one of the
-- names
unfoldable mutual
  pub TextsKnown : List Text → (s : Struct) → Value ℕ s → Type 0
  TextsKnown names (struct_of called fields ps) v = PartsKnown names ps v.1

  pub PartsKnown : List Text → (ps : Pointers) → Parts ℕ ps → Type 0
  PartsKnown names no_more v = Unit {0}
  PartsKnown names (text called ps) v = IsKnown names v.0 × PartsKnown names ps v.1
  PartsKnown names (texts called ps) v = AllByRecursion (IsKnown names) v.0
      × PartsKnown names ps v.1
  PartsKnown names (numbers called target kind ps) v = PartsKnown names ps v.1
  PartsKnown names (struct called s ps) v = TextsKnown names s v.0 × PartsKnown names ps v.1
  PartsKnown names (struct_or_none called s ps) v = IfThere (TextsKnown names s) v.0
      × PartsKnown names ps v.1
  PartsKnown names (boxed called kind inner s ps) v = AllByRecursion (TextsKnown names s) v.0
      × PartsKnown names ps v.1
  PartsKnown names (structs called target s ps) v = AllByRecursion (TextsKnown names s) v.0
      × PartsKnown names ps v.1
  PartsKnown names (branches called kind fields ps) v = PartsKnown names ps v.1
  PartsKnown names (string_table called ps) v = PartsKnown names ps v
  PartsKnown names (unread called ps) v = PartsKnown names ps v

-- how many items a tree has
abbrev pub branches_in : {A : Type 0} → Branches A → ℕ
branches_in ends = 0
branches_in (branch x below beside) = branches_in below + branches_in beside + 1

abbrev pub if_there : {A : Type 0} → (A → ℕ) → Option A → ℕ
if_there count None = 0
if_there count (Some x) = count x

-- how many structs there are, the struct itself with those behind its pointers
unfoldable mutual
  pub structs_in : (s : Struct) → Value ℕ s → ℕ
  structs_in (struct_of called fields ps) v = parts_in ps v.1 + 1

  pub parts_in : (ps : Pointers) → Parts ℕ ps → ℕ
  parts_in no_more v = 0
  parts_in (text called ps) v = parts_in ps v.1
  parts_in (texts called ps) v = parts_in ps v.1
  parts_in (numbers called target kind ps) v = parts_in ps v.1
  parts_in (struct called s ps) v = structs_in s v.0 + parts_in ps v.1
  parts_in (struct_or_none called s ps) v = if_there (structs_in s) v.0 + parts_in ps v.1
  parts_in (boxed called kind inner s ps) v = sum_by (structs_in s) v.0 + parts_in ps v.1
  parts_in (structs called target s ps) v = sum_by (structs_in s) v.0 + parts_in ps v.1
  parts_in (branches called kind fields ps) v = branches_in v.0 + parts_in ps v.1
  parts_in (string_table called ps) v = parts_in ps v
  parts_in (unread called ps) v = parts_in ps v
