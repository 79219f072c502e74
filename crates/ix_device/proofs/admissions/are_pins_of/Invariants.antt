use Rattle.std.proofs.Common.{◌≡◌, true, take}
use Rattle.std.specs.List.{list_all}
use Rattle.ix_device_rules.specs.Rules.{has_pin}
use Rattle.ix_device.proofs.admissions.are_pins_of.Given as goal

abbrev pub invariant-loop-i : goal.invariant-loop-i
invariant-loop-i l = list_all (λ p. has_pin l.t l.bel p.bel_pin) (take l.i l.pins) ≡ true
