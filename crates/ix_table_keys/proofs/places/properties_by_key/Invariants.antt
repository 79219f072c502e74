use Rattle.std.proofs.Common.{take}
use Rattle.ix_table_keys.specs.Places.{ArePlacesByName, key_of}
use Rattle.ix_table_keys.proofs.places.properties_by_key.Given as goal

abbrev pub invariant-loop-i : goal.invariant-loop-i
invariant-loop-i l = ArePlacesByName key_of (take l.i l.properties) l.fn.names l.places
