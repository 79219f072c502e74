use Rattle.std.proofs.Common.{◌≡◌, take, length}
use Rattle.ix_legal.specs.Names.{KeyIsNamed}
use Rattle.ix_walk.specs.Firsts.{AllFit}
use Rattle.ix_walk.specs.Marks.{AreNamesOf}
use Rattle.ix_named_there.specs.Parts.{key_of}
use Rattle.ix_named_there.proofs.properties.first_property.Given as goal

abbrev pub invariant-loop-i : goal.invariant-loop-i
invariant-loop-i l = record {
  fit : AllFit (KeyIsNamed l.names l.device l.phys) l.phys.properties l.i;
  marked : AreNamesOf key_of (take l.i l.phys.properties) l.keys;
  many : length l.keys ≡ length l.names;
}
