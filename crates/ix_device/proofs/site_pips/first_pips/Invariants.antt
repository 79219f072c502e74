use Rattle.std.proofs.Common.{◌≡◌, ◌<◌, ℕ, length, take, Some}
use Rattle.ix_first.specs.First.{value_of}
use Rattle.ix_device.specs.SitePips.{first_from}
use Rattle.ix_device.proofs.site_pips.first_pips.Given as goal

abbrev pub invariant-loop-i : goal.invariant-loop-i
invariant-loop-i l = (pin : ℕ) → pin < length l.ty.bel_pins → value_of l.first pin ≡ Some (first_from pin (take l.i l.ty.site_pips))
