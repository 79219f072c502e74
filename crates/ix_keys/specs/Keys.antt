-- A table of keys is the list of its keys, no two alike.
use Rattle.std.specs.Prelude.{◌≡◌, ℕ, ◌^◌, ◌<◌, Bool, ◌&&◌, nat_eq, List, [], ◌∷◌, ◌++◌, length}
use Rattle.std.specs.Prelude.{slice_get, Some, if◌then◌else◌}
use Rattle.std.specs.List.{list_any}
use Rattle.ix_keys.specs.declared.key.Key.{Key}

abbrev pub key : (owner part name : ℕ) → Key
key owner part name = record { owner = owner; part = part; name = name }

-- a name alone
abbrev pub name_key : ℕ → Key
name_key name = key 0 0 name

abbrev pub key_eq : Key → Key → Bool
key_eq a b = nat_eq a.owner b.owner && (nat_eq a.part b.part && nat_eq a.name b.name)

-- whether one of the keys is this one
abbrev pub has_key : List Key → Key → Bool
has_key keys k = list_any (key_eq k) keys

-- the keys with one: as they are where they have it, else with it last
abbrev pub with_key : List Key → Key → List Key
with_key keys k = if has_key keys k then keys else keys ++ k ∷ []

-- no two of the keys are alike: places of one key are equal
abbrev pub AllDiffer : List Key → Type 0
AllDiffer keys = (i j : ℕ) (k : Key) → slice_get keys i ≡ Some k → slice_get keys j ≡ Some k → i ≡ j

-- what holds of each table
pub record IsTable (keys : List Key) : Type 0 where
  pub few : length keys < 2 ^ 32
  pub differ : AllDiffer keys
