use Rattle.std.proofs.Common.{◌≡◌, ℕ, take}
use Rattle.ix_keys.specs.Keys.{name_key}
use Rattle.ix_first.specs.First.{value_at}
use Rattle.ix_belmap.specs.Pins.{value_of_key}
use Rattle.ix_belmap.proofs.properties.values_by_key.Given as goal

abbrev pub invariant-loop-i : goal.invariant-loop-i
invariant-loop-i l = (key : ℕ) → value_at l.values (name_key key) ≡ value_of_key
    (take l.i l.properties) key
