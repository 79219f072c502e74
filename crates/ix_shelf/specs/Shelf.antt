-- Files by name, and what the calls of a shelf do to them.
use Rattle.std.specs.Prelude.{◌≡◌, ◌<◌, ◌≤◌, ◌+◌, ◌-◌, ◌^◌, ◌⊎◌, ℕ, min, ◌&&◌, not, ◌==◌, List, []}
use Rattle.std.specs.Prelude.{◌++◌, length, take, drop, Option, Some, None, unwrap_or, option_map}
use Rattle.std.specs.Prelude.{if◌then◌else◌}
use Rattle.std.specs.Str.{bytes_eq}

-- what each name stands for: the bytes of a file, or nothing
abbrev pub Files : Type 0
Files = List ℕ → Option (List ℕ)

-- the files with this one set
abbrev pub with_file : List ℕ → List ℕ → Files → Files
with_file name bytes files other = if bytes_eq name other then Some bytes else files other

-- The files after an append that took the front of a piece. One that takes nothing of a piece that
-- isn't empty is a failed call, and changes nothing; else a file that isn't there is made.
abbrev pub after_append : (name piece : List ℕ) (taken : ℕ) → Files → Files
after_append name piece taken files =
    if taken == 0 && not (length piece == 0) then files
    else with_file name (unwrap_or (files name) [] ++ take taken piece) files

-- How often calls on the file of each name have failed. A shelf that counts them all together has
-- that count for each name.
abbrev pub Counts : Type 0
Counts = List ℕ → ℕ

-- no count falls
abbrev pub NoneFalls : (before now : Counts) → Type 0
NoneFalls before now = (name : List ℕ) → before name ≤ now name

-- A count of faults rose between two moments. One that stands at the end of its type counts as
-- risen.
abbrev pub Rose : (before now : ℕ) → Type 0
Rose before now = min (before + 1) (2 ^ 64 - 1) ≤ now

-- the shelf tells its files and has none of that name
abbrev pub IsAbsent : Option Files → List ℕ → Type 0
IsAbsent None name = ⊥
IsAbsent (Some files) name = files name ≡ None

-- A read that answered n bytes gave the file's bytes from `at` on, and 0 only at the file's end.
-- Nothing is known where the shelf doesn't tell its files.
abbrev pub ReadsFile : Option Files → (name : List ℕ) (at room : ℕ) (into : List ℕ) (n : ℕ) → Type 0
ReadsFile None name at room into n = Unit {0}
ReadsFile (Some files) name at room into n =
    (file : List ℕ) × (files name ≡ Some file) × (take n into ≡ take n (drop at file))
    × (n ≡ 0 → 0 < room → length file ≤ at)

-- The file's bytes to its end, where the shelf tells its files.
abbrev pub IsWholeFile : Option Files → List ℕ → List ℕ → Type 0
IsWholeFile None name bytes = Unit {0}
IsWholeFile (Some files) name bytes = files name ≡ Some bytes

-- the file is longer than the limit, where the shelf tells its files
abbrev pub IsTooLarge : Option Files → List ℕ → ℕ → Type 0
IsTooLarge None name limit = Unit {0}
IsTooLarge (Some files) name limit = (file : List ℕ) × (files name ≡ Some file)
    × (limit < length file)

-- The files are as they were, or the named one holds a prefix of the bytes, less than all of them.
abbrev pub LeavesPrefix : (name bytes : List ℕ) (old new : Option Files) → Type 0
LeavesPrefix name bytes old new =
    (new ≡ old) ⊎ ((n : ℕ) × (n < length bytes)
    × (new ≡ option_map (with_file name (take n bytes)) old))
