-- The names of a message: a record has them as texts, a file as places in its string table, which
-- lists them in the order of their first use.
use Rattle.std.specs.Prelude.{ℕ, ◌+◌, ◌%◌, List, [], ◌∷◌, ◌++◌, map, Bool, true, false, ◌&&◌, ◌==◌}
use Rattle.std.specs.Prelude.{Option, Some, None, if◌then◌else◌, slice_index, slice_index_or}
use Rattle.std.specs.List.{flat_map}
use Rattle.ix_message.specs.Shape.{Text, Kind, Field, Struct, Pointers, Branches, Value, Parts}
use Rattle.ix_message.specs.Shape.{flag, nothing, name, by_tag, struct_of, no_more, text, texts}
use Rattle.ix_message.specs.Shape.{numbers, struct, struct_or_none, boxed, structs, branches}
use Rattle.ix_message.specs.Shape.{string_table, unread, ends, branch}

-- What a data slot of a record holds.
pub data Datum : Type 0 where
  the_number : ℕ → Datum
  the_text : Text → Datum

abbrev pub same_text : Text → Text → Bool
same_text [] [] = true
same_text [] (y ∷ ys) = false
same_text (x ∷ xs) [] = false
same_text (x ∷ xs) (y ∷ ys) = (x == y) && same_text xs ys

-- what the kind is of a field of a struct with this row
abbrev pub kind_in : List ℕ → Kind → Kind
kind_in row (by_tag slot value here there) = if slice_index row slot == value then kind_in row here
    else kind_in row there
kind_in row kind = kind

-- From numbers to texts, by a string table.

abbrev pub datum_of : List Text → Kind → ℕ → Datum
datum_of table name n = the_text (slice_index_or table n [])
datum_of table nothing n = the_number 0
datum_of table flag n = the_number (n % 2)
datum_of table _ n = the_number n

abbrev pub data_of : List Text → List ℕ → List Field → List ℕ → List Datum
data_of table row (f ∷ fs) (n ∷ ns) = datum_of table (kind_in row f.kind) n
    ∷ data_of table row fs ns
data_of table row [] ns = []
data_of table row (f ∷ fs) [] = []

-- a tree with each item changed
abbrev pub branches_map : {A B : Type 0} → (A → B) → Branches A → Branches B
branches_map f ends = ends
branches_map f (branch x below beside) = branch (f x) (branches_map f below) (branches_map f beside)

abbrev pub option_with : {A B : Type 0} → (A → B) → Option A → Option B
option_with f None = None
option_with f (Some x) = Some (f x)

unfoldable mutual
  pub record_of : List Text → (s : Struct) → Value ℕ s → Value Datum s
  record_of table (struct_of called fields ps) v
      = (data_of table v.0 fields v.0, parts_of table ps v.1)

  pub parts_of : List Text → (ps : Pointers) → Parts ℕ ps → Parts Datum ps
  parts_of table no_more v = tt
  parts_of table (text called ps) v = (v.0, parts_of table ps v.1)
  parts_of table (texts called ps) v = (v.0, parts_of table ps v.1)
  parts_of table (numbers called target kind ps) v
      = (map (datum_of table kind) v.0, parts_of table ps v.1)
  parts_of table (struct called s ps) v = (record_of table s v.0, parts_of table ps v.1)
  parts_of table (struct_or_none called s ps) v
      = (option_with (record_of table s) v.0, parts_of table ps v.1)
  parts_of table (boxed called kind inner s ps) v
      = (map (record_of table s) v.0, parts_of table ps v.1)
  parts_of table (structs called target s ps) v
      = (map (record_of table s) v.0, parts_of table ps v.1)
  parts_of table (branches called kind fields ps) v
      = (branches_map (λ row. data_of table row fields row) v.0, parts_of table ps v.1)
  parts_of table (string_table called ps) v = parts_of table ps v
  parts_of table (unread called ps) v = parts_of table ps v

-- From texts to numbers, by a numbering of the texts.

abbrev pub number_for : (Text → ℕ) → Datum → ℕ
number_for place (the_number n) = n
number_for place (the_text t) = place t

unfoldable mutual
  pub numbered : (Text → ℕ) → (s : Struct) → Value Datum s → Value ℕ s
  numbered place (struct_of called fields ps) v
      = (map (number_for place) v.0, parts_numbered place ps v.1)

  pub parts_numbered : (Text → ℕ) → (ps : Pointers) → Parts Datum ps → Parts ℕ ps
  parts_numbered place no_more v = tt
  parts_numbered place (text called ps) v = (v.0, parts_numbered place ps v.1)
  parts_numbered place (texts called ps) v = (v.0, parts_numbered place ps v.1)
  parts_numbered place (numbers called target kind ps) v
      = (map (number_for place) v.0, parts_numbered place ps v.1)
  parts_numbered place (struct called s ps) v = (numbered place s v.0, parts_numbered place ps v.1)
  parts_numbered place (struct_or_none called s ps) v
      = (option_with (numbered place s) v.0, parts_numbered place ps v.1)
  parts_numbered place (boxed called kind inner s ps) v
      = (map (numbered place s) v.0, parts_numbered place ps v.1)
  parts_numbered place (structs called target s ps) v
      = (map (numbered place s) v.0, parts_numbered place ps v.1)
  parts_numbered place (branches called kind fields ps) v
      = (branches_map (map (number_for place)) v.0, parts_numbered place ps v.1)
  parts_numbered place (string_table called ps) v = parts_numbered place ps v
  parts_numbered place (unread called ps) v = parts_numbered place ps v

-- The texts in the order in which a record uses them: the data fields of a struct before its
-- pointers, each element of a list with all that it points at before the next.

abbrev pub text_in : Datum → List Text
text_in (the_number n) = []
text_in (the_text t) = t ∷ []

abbrev pub branch_uses : Branches (List Datum) → List Text
branch_uses ends = []
branch_uses (branch row below beside) = flat_map text_in row ++ branch_uses below
    ++ branch_uses beside

abbrev pub option_uses : {A : Type 0} → (A → List Text) → Option A → List Text
option_uses uses None = []
option_uses uses (Some x) = uses x

unfoldable mutual
  pub uses : (s : Struct) → Value Datum s → List Text
  uses (struct_of called fields ps) v = flat_map text_in v.0 ++ part_uses ps v.1

  pub part_uses : (ps : Pointers) → Parts Datum ps → List Text
  part_uses no_more v = []
  part_uses (text called ps) v = part_uses ps v.1
  part_uses (texts called ps) v = part_uses ps v.1
  part_uses (numbers called target kind ps) v = flat_map text_in v.0 ++ part_uses ps v.1
  part_uses (struct called s ps) v = uses s v.0 ++ part_uses ps v.1
  part_uses (struct_or_none called s ps) v = option_uses (uses s) v.0 ++ part_uses ps v.1
  part_uses (boxed called kind inner s ps) v = flat_map (uses s) v.0 ++ part_uses ps v.1
  part_uses (structs called target s ps) v = flat_map (uses s) v.0 ++ part_uses ps v.1
  part_uses (branches called kind fields ps) v = branch_uses v.0 ++ part_uses ps v.1
  part_uses (string_table called ps) v = part_uses ps v
  part_uses (unread called ps) v = part_uses ps v

abbrev pub has_text : List Text → Text → Bool
has_text [] t = false
has_text (x ∷ xs) t = if same_text x t then true else has_text xs t

abbrev pub with_text : List Text → Text → List Text
with_text table t = if has_text table t then table else table ++ t ∷ []

-- each text once, where it is first used
unfoldable pub first_uses : List Text → List Text → List Text
first_uses before [] = before
first_uses before (t ∷ ts) = first_uses (with_text before t) ts

abbrev pub table_of : (s : Struct) → Value Datum s → List Text
table_of s r = first_uses [] (uses s r)

-- a text's place in a string table
unfoldable pub place_in : List Text → Text → ℕ
place_in [] t = 0
place_in (x ∷ xs) t = if same_text x t then 0 else place_in xs t + 1
