use Rattle.std.proofs.Common.{◌≡◌, ◌++◌, Some, map, take}
use Rattle.ix_lut_places.specs.Places.{lut_at}
use Rattle.ix_lut_places.specs.Filled.{luts_of}
use Rattle.ix_lut_places.proofs.filling.put_entry.Given as goal

abbrev pub invariant-loop-k : goal.invariant-loop-k
invariant-loop-k l = map (lut_at l.rec) l.row
    ≡ map (lut_at l.rec) l.fn.row ++ map Some (take l.k (luts_of l.rec l.entry))
