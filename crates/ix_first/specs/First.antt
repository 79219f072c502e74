-- The first value that was put under a key or a number.
use Rattle.std.specs.Prelude.{ℕ, Bool, Option, Some, None, slice_get, if◌then◌else◌}
use Rattle.std.specs.HashMap.{get}
use Rattle.ix_keys.specs.declared.key.Key.{Key}
use Rattle.ix_keys.specs.Keys.{key_eq}
use Rattle.ix_first.specs.declared.by_key.FirstByKey.{FirstByKey}
use Rattle.ix_first.specs.declared.by_id.FirstById.{FirstById}

-- the value under a key
abbrev pub value_at : {V : Type 0} → FirstByKey V → Key → Option V
value_at table key = get key_eq table.values key

-- the value under a number: none past the table's end
abbrev pub value_of : {V : Type 0} → FirstById V → ℕ → Option (Option V)
value_of table id = slice_get table.values.items id

-- a value that is there, or else a later one where the test passes
abbrev pub or_later : {V : Type 0} → Option V → Bool → V → Option V
or_later (Some v) test later = Some v
or_later None test later = if test then Some later else None

-- a value that is there, or else one that may be found later where the test passes
abbrev pub or_found : {V : Type 0} → Option V → Bool → Option V → Option V
or_found (Some v) test found = Some v
or_found None test found = if test then found else None
