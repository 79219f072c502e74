use Rattle.std.proofs.Common.{◌≡◌, ◌<◌, ℕ, length, take, Some, None}
use Rattle.std.specs.List.{list_any}
use Rattle.ix_first.specs.First.{value_of, or_later}
use Rattle.ix_device.specs.SitePips.{inverts_at}
use Rattle.ix_device.proofs.site_pips.inverting_pins.Given as goal

abbrev pub invariant-loop-i : goal.invariant-loop-i
invariant-loop-i l = (pin : ℕ) → pin < length l.ty.bel_pins → value_of l.marks pin ≡ Some (or_later None (list_any (inverts_at pin) (take l.i l.ty.bels)) tt)
