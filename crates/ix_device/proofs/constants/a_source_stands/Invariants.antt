use Rattle.std.proofs.Common.{◌≡◌, false, take}
use Rattle.std.specs.List.{list_any}
use Rattle.ix_device.specs.Sources.{is_source}
use Rattle.ix_device.proofs.constants.a_source_stands.Given as goal

abbrev pub invariant-loop-i : goal.invariant-loop-i
invariant-loop-i l = list_any (is_source l.rec l.c) (take l.i l.sources) ≡ false
