use Rattle.std.proofs.Common.{◌≡◌, map, take, string_bytes}
use Rattle.ix_hierarchy.specs.Hierarchy.{joined}
use Rattle.ix_flat_texts.proofs.Way.{name_in}
use Rattle.ix_flat_texts.proofs.texts.joined_names.Given as goal

abbrev pub invariant-loop-i : goal.invariant-loop-i
invariant-loop-i l = string_bytes l.text ≡ joined (map (name_in l.names l.rec) (take l.i l.way))
