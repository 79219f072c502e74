use Rattle.std.proofs.Common.{◌∙◌}
use Rattle.ix_walk.specs.Listed.{one_more_fits, one_more_named}
use Rattle.ix_named_there.specs.Parts.{InstanceNamedAt, site_of}
use Rattle.ix_named_there.proofs.instances.first_instance.Goals as goal

pub loop-i-preserved : goal.loop-i-preserved
loop-i-preserved c = record {
  fit = one_more_fits (InstanceNamedAt c.args.device.now) c.args.instances.now c.loop-i.i
      c.at-instance.result.now c.at-instance.ensures c.loop-i.invariant.fit
      (c.is_named.ensures.0 c.if-not-is_named.false);
  marked = one_more_named site_of c.args.instances.now c.loop-i.i c.at-instance.result.now
      c.loop-i.sites c.add-new.new.self c.at-instance.ensures c.loop-i.invariant.marked
      c.add-new.ensures.marks;
  many = c.add-new.ensures.count ∙ c.loop-i.invariant.many;
}
