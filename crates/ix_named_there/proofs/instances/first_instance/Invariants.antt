use Rattle.std.proofs.Common.{◌≡◌, take, length}
use Rattle.ix_walk.specs.Firsts.{AllFit}
use Rattle.ix_walk.specs.Marks.{AreNamesOf}
use Rattle.ix_named_there.specs.Parts.{InstanceNamedAt, site_of}
use Rattle.ix_named_there.proofs.instances.first_instance.Given as goal

abbrev pub invariant-loop-i : goal.invariant-loop-i
invariant-loop-i l = record {
  fit : AllFit (InstanceNamedAt l.device) l.instances l.i;
  marked : AreNamesOf site_of (take l.i l.instances) l.sites;
  many : length l.sites ≡ length l.fn.sites;
}
