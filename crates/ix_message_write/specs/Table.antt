-- The string table of a message that is being written, over the names of a run.
use Rattle.std.specs.Prelude.{◌≡◌, ◌≤◌, ◌<◌, ℕ, ◌+◌, ◌^◌, List, [], map, length, slice_index}
use Rattle.std.specs.Prelude.{slice_index_or, Bool, true, false, IsTrue, if◌then◌else◌}
use Rattle.std.specs.List.{All}
use Rattle.ix_strings.specs.Names.{AllDiffer}
use Rattle.ix_message.specs.Shape.{Text, Struct, Pointers, struct_of, no_more, text, texts, numbers}
use Rattle.ix_message.specs.Shape.{struct, struct_or_none, boxed, structs, branches, string_table}
use Rattle.ix_message.specs.Shape.{unread}
use Rattle.ix_message.specs.Names.{has_text, place_in}
use Rattle.ix_message_write.specs.declared.string_table.Strings.{Strings}

-- a name's text
abbrev pub name_text : List Text → ℕ → Text
name_text names id = slice_index_or names id []

-- the names of the table, in the order of their first use
abbrev pub used_names : Strings → List ℕ
used_names s = s.used.items

-- the texts of the table
abbrev pub table_in : List Text → Strings → List Text
table_in names s = map (name_text names) s.used.items

-- 0 for a text that the table doesn't have, else its place and 1
abbrev pub place_and_one : List Text → Text → ℕ
place_and_one table t = if has_text table t then place_in table t + 1 else 0

-- a table over these names, which knows each name's place
pub record IsTableOf (names : List Text) (s : Strings) : Type 0 where
  pub differ : AllDiffer names
  pub long : length s.places.items ≡ length names
  pub placed : (id : ℕ) → id < length names
      → slice_index s.places.items id ≡ place_and_one (table_in names s) (name_text names id)
  pub used : All (λ id. id < length names) s.used.items
  pub few : length s.used.items ≤ 2 ^ 27

-- a struct with the message's string table among its pointers
abbrev pub has_table : Pointers → Bool
has_table no_more = false
has_table (text c ps) = has_table ps
has_table (texts c ps) = has_table ps
has_table (numbers c target kind ps) = has_table ps
has_table (struct c s ps) = has_table ps
has_table (struct_or_none c s ps) = has_table ps
has_table (boxed c kind inner s ps) = has_table ps
has_table (structs c target s ps) = has_table ps
has_table (branches c kind fields ps) = has_table ps
has_table (string_table c ps) = true
has_table (unread c ps) = has_table ps

abbrev pub IsRoot : Struct → Type 0
IsRoot (struct_of c fields ps) = IsTrue (has_table ps)
