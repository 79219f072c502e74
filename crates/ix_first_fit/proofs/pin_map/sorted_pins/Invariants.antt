use Rattle.std.proofs.Common.{◌≡◌, take}
use Rattle.ix_device.specs.PinsListed.{pins_listed}
use Rattle.ix_first_fit.proofs.pin_map.sorted_pins.Given as goal

abbrev pub invariant-loop-i : goal.invariant-loop-i
invariant-loop-i l = l.sorted.items ≡ take l.i (pins_listed l.pins)
