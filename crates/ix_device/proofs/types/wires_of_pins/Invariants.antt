use Rattle.std.proofs.Common.{◌≡◌, ◌<◌, ℕ, length, take, nat_eq, Some}
use Rattle.std.specs.List.{list_any, position}
use Rattle.ix_first.specs.First.{value_of}
use Rattle.ix_device.proofs.types.wires_of_pins.Given as goal

abbrev pub invariant-loop-i : goal.invariant-loop-i
invariant-loop-i l = (pin : ℕ) → pin < length l.ty.bel_pins → value_of l.table pin ≡ Some (position (λ w. list_any (nat_eq pin) w.pins) (take l.i l.ty.site_wires))
