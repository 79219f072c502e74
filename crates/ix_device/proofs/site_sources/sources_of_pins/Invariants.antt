use Rattle.std.proofs.Common.{length}
use Rattle.ix_device.specs.NamedSources.{source_of_pin}
use Rattle.ix_device.proofs.FilledTables.{IsFilled}
use Rattle.ix_device.proofs.site_sources.sources_of_pins.Given as goal

abbrev pub invariant-loop-pin : goal.invariant-loop-pin
invariant-loop-pin l = IsFilled (length l.ty.bel_pins) (source_of_pin l.table l.ty) l.pin l.sources
