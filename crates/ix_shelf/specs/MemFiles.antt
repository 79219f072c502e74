-- Files in a map, by their names' bytes.
use Rattle.std.specs.Prelude.{ℕ, ◌-◌, min, List, length, Option, Some, None, option_map, String}
use Rattle.std.specs.Prelude.{Vec}
use Rattle.std.specs.BTreeMap.{BTreeMap, get_by_text}
use Rattle.ix_shelf.specs.Shelf.{Files}

module _ {Y Z : Type 0} where
  -- the files of a map
  abbrev pub files_in : BTreeMap (String Y) (Vec ℕ Z) → Files
  files_in map name = option_map (λ file. file.items) (get_by_text map name)

-- how many bytes a read gives that takes all it can: as many as there is room for and the file has
-- from `at` on
abbrev pub given_at : (file : Option (List ℕ)) (at room : ℕ) → ℕ
given_at None at room = 0
given_at (Some file) at room = min room (length file - at)
