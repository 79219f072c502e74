use Rattle.std.proofs.Common.{◌≡◌, take}
use Rattle.std.specs.Option.{option_or}
use Rattle.ix_keys.specs.declared.key.Key.{Key}
use Rattle.ix_first.specs.First.{value_at}
use Rattle.ix_device.specs.NamedSources.{is_under, first_that}
use Rattle.ix_device.proofs.site_sources.put_sources.Given as goal

abbrev pub invariant-loop-i : goal.invariant-loop-i
invariant-loop-i l = (q : Key) → value_at l.table q ≡ option_or (value_at l.initial.table q) (first_that (is_under q) (take l.i l.entries))
