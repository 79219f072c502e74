-- Bits of instances by their written names, with the first net that names each.
use Rattle.std.specs.Prelude.{◌≡◌, ◌-◌, ◌<◌, ◌≤◌, ℕ, Bool, true, false, List, [], ◌∷◌, length}
use Rattle.std.specs.Prelude.{slice_get, Option, Some, nat_eq, ◌&&◌}
use Rattle.ix_hierarchy.specs.declared.row.Row.{Row}
use Rattle.ix_hierarchy.specs.Walk.{IsLess}
use Rattle.ix_twice.specs.declared.entries.Entry.{Entry}
use Rattle.ix_twice.specs.Repeats.{is_same_bit, IsLeast}

abbrev pub entry_of : Row → (name : ℕ) → Entry
entry_of row name = record {
  instance = row.instance;
  name = name;
  net = row.net;
  port = row.port;
  index = row.index;
}

abbrev pub entry_key : Entry → List ℕ
entry_key e = e.instance ∷ e.name ∷ e.net ∷ e.port ∷ e.index ∷ []

-- the row at this place is the first of its bit from `start` on
abbrev pub IsFirstAt : List Row → (start place : ℕ) → Type 0
IsFirstAt rows start place = (row other : Row) → start < place → slice_get rows place ≡ Some row
    → slice_get rows (place - 1) ≡ Some other → is_same_bit other row ≡ false

-- the first row of a bit, with its written name
pub record IsEntryAt (rows : List Row) (written : List ℕ) (start place : ℕ) (entry : Entry) : Type 0
  where
    pub row : Row
    pub row_is : slice_get rows place ≡ Some row
    pub name : ℕ
    pub name_is : slice_get written place ≡ Some name
    pub first : IsFirstAt rows start place
    pub entry_is : entry ≡ entry_of row name

pub record IsEntry (rows : List Row) (written : List ℕ) (start end : ℕ) (entry : Entry) : Type 0
  where
    pub place : ℕ
    pub from : start ≤ place
    pub to : place < end
    pub at_place : IsEntryAt rows written start place entry

-- all of them, each once and rising
pub record AreEntries (Is : Entry → Type 0) (entries : List Entry) : Type 0 where
  pub each : (k : ℕ) (e : Entry) → slice_get entries k ≡ Some e → Is e
  pub all : (e : Entry) → Is e → (k : ℕ) × (slice_get entries k ≡ Some e)
  pub rise : (j k : ℕ) (a b : Entry) → j < k → slice_get entries j ≡ Some a
      → slice_get entries k ≡ Some b → IsLess (entry_key a) (entry_key b)

abbrev pub is_same_name : Entry → Entry → Bool
is_same_name a b = nat_eq a.instance b.instance && nat_eq a.name b.name

pub record IsEntryRepeatAt (entries : List Entry) (place net : ℕ) : Type 0 where
  pub entry : Entry
  pub entry_is : slice_get entries place ≡ Some entry
  pub other : Entry
  pub other_is : slice_get entries (place - 1) ≡ Some other
  pub same : is_same_name other entry ≡ true
  pub net_is : entry.net ≡ net

pub record IsEntryRepeat (entries : List Entry) (end net : ℕ) : Type 0 where
  pub place : ℕ
  pub from : 0 < place
  pub to : place < end
  pub repeat : IsEntryRepeatAt entries place net

abbrev pub HasEntry : List Entry → Entry → Type 0
HasEntry entries e = (k : ℕ) × (slice_get entries k ≡ Some e)

-- the first net that is the second to name a bit of one name
abbrev pub IsLeastWritten : List Row → (written : List ℕ) → (start end : ℕ) → Option ℕ → Type 0
IsLeastWritten rows written start end found = (entries : List Entry)
    × AreEntries (IsEntry rows written start end) entries
    × IsLeast (IsEntryRepeat entries (length entries)) found
