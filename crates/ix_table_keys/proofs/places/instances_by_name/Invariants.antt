use Rattle.std.proofs.Common.{take}
use Rattle.ix_table_keys.specs.Places.{ArePlacesByName, site_of}
use Rattle.ix_table_keys.proofs.places.instances_by_name.Given as goal

abbrev pub invariant-loop-i : goal.invariant-loop-i
invariant-loop-i l = ArePlacesByName site_of (take l.i l.instances) l.fn.names l.places
