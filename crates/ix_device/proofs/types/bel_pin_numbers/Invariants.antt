use Rattle.std.proofs.Common.{◌≡◌, ℕ, take}
use Rattle.std.specs.List.{position}
use Rattle.ix_keys.specs.Keys.{key}
use Rattle.ix_first.specs.First.{value_at}
use Rattle.ix_device_rules.specs.Rules.{is_pin_of}
use Rattle.ix_device.proofs.types.bel_pin_numbers.Given as goal

abbrev pub invariant-loop-i : goal.invariant-loop-i
invariant-loop-i l = (bel name : ℕ) → value_at l.table (key 0 bel name) ≡ position (is_pin_of bel name) (take l.i l.ty.bel_pins)
