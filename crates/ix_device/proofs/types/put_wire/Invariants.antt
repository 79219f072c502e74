use Rattle.std.proofs.Common.{◌≡◌, ℕ, take, nat_eq, option_map}
use Rattle.std.specs.List.{list_any}
use Rattle.ix_first.specs.First.{value_of, or_later}
use Rattle.ix_device.proofs.types.put_wire.Given as goal

abbrev pub invariant-loop-i : goal.invariant-loop-i
invariant-loop-i l = (pin : ℕ) → value_of l.table pin ≡ option_map (λ v. or_later v (list_any (nat_eq pin) (take l.i l.pins)) l.wire) (value_of l.initial.table pin)
