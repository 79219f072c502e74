-- What a record is: its rows have the fields of their struct, each with a value of its kind.
use Rattle.std.specs.Prelude.{◌≡◌, ◌<◌, ◌^◌, ℕ, List, [], ◌∷◌, map, Option, Some, None, IsTrue}
use Rattle.std.specs.List.{AllByRecursion}
use Rattle.std.specs.Str.{is_utf8}
use Rattle.ix_message.specs.Shape.{Text, Kind, Field, Struct, Pointers, Branches, Value, Parts}
use Rattle.ix_message.specs.Shape.{flag, nothing, choice, name, bus_tag, struct_of, no_more, text}
use Rattle.ix_message.specs.Shape.{texts, numbers, struct, struct_or_none, boxed, structs, branches}
use Rattle.ix_message.specs.Shape.{string_table, unread, ends, branch}
use Rattle.ix_message.specs.Names.{Datum, the_number, the_text, kind_in, number_for}

abbrev pub IsText : Text → Type 0
IsText t = IsTrue (is_utf8 t)

abbrev pub IsDatum : Kind → Datum → Type 0
IsDatum name (the_text t) = IsText t
IsDatum name (the_number n) = ⊥
IsDatum nothing (the_number n) = n ≡ 0
IsDatum flag (the_number n) = n < 2
IsDatum (choice most) (the_number n) = n < 2 ^ 16
IsDatum bus_tag (the_number n) = n < 2 ^ 16
IsDatum _ (the_number n) = n < 2 ^ 32
IsDatum _ (the_text t) = ⊥

-- the data of a struct by its fields; row has the numbers of its tags
abbrev pub AreData : List ℕ → List Field → List Datum → Type 0
AreData row [] [] = Unit {0}
AreData row [] (d ∷ ds) = ⊥
AreData row (f ∷ fs) [] = ⊥
AreData row (f ∷ fs) (d ∷ ds) = IsDatum (kind_in row f.kind) d × AreData row fs ds

abbrev pub AreBranches : (Text → ℕ) → List Field → Branches (List Datum) → Type 0
AreBranches place fields ends = Unit {0}
AreBranches place fields (branch row below beside) =
    AreData (map (number_for place) row) fields row × AreBranches place fields below
    × AreBranches place fields beside

abbrev pub IfThere : {A : Type 0} → (A → Type 0) → Option A → Type 0
IfThere P None = Unit {0}
IfThere P (Some x) = P x

-- a record whose texts are numbered so
unfoldable mutual
  pub IsRecord : (Text → ℕ) → (s : Struct) → Value Datum s → Type 0
  IsRecord place (struct_of called fields ps) v = AreData (map (number_for place) v.0) fields v.0
      × AreParts place ps v.1

  pub AreParts : (Text → ℕ) → (ps : Pointers) → Parts Datum ps → Type 0
  AreParts place no_more v = Unit {0}
  AreParts place (text called ps) v = IsText v.0 × AreParts place ps v.1
  AreParts place (texts called ps) v = AllByRecursion IsText v.0 × AreParts place ps v.1
  AreParts place (numbers called target kind ps) v = AllByRecursion (IsDatum kind) v.0
      × AreParts place ps v.1
  AreParts place (struct called s ps) v = IsRecord place s v.0 × AreParts place ps v.1
  AreParts place (struct_or_none called s ps) v = IfThere (IsRecord place s) v.0
      × AreParts place ps v.1
  AreParts place (boxed called kind inner s ps) v = AllByRecursion (IsRecord place s) v.0
      × AreParts place ps v.1
  AreParts place (structs called target s ps) v = AllByRecursion (IsRecord place s) v.0
      × AreParts place ps v.1
  AreParts place (branches called kind fields ps) v = AreBranches place fields v.0
      × AreParts place ps v.1
  AreParts place (string_table called ps) v = AreParts place ps v
  AreParts place (unread called ps) v = AreParts place ps v
