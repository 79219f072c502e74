use Rattle.std.proofs.Common.{length}
use Rattle.ix_device.specs.SitePips.{site_pip_from}
use Rattle.ix_device.proofs.FilledTables.{IsFilled}
use Rattle.ix_device.proofs.site_pips.site_pips_from_pins.Given as goal

abbrev pub invariant-loop-pin : goal.invariant-loop-pin
invariant-loop-pin l = IsFilled (length l.ty.bel_pins) (λ pin. site_pip_from pin l.ty) l.pin l.pips
