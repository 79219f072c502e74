use Rattle.std.proofs.Common.{◌∙◌, take}
use Rattle.ix_legal.specs.Names.{KeyIsNamed}
use Rattle.ix_walk.specs.Listed.{one_more_fits, one_more_named, new_among}
use Rattle.ix_named_there.specs.Parts.{key_of}
use Rattle.ix_named_there.proofs.properties.first_property.Goals as goal

pub loop-i-preserved : goal.loop-i-preserved
loop-i-preserved c = record {
  fit = one_more_fits (KeyIsNamed c.args.names.now c.args.device.now c.args.phys.now)
      c.args.phys.now.properties c.loop-i.i c.at-property.result.now c.at-property.ensures
      c.loop-i.invariant.fit
      ((c.is_named.ensures c.loop-i.i (new_among key_of (take c.loop-i.i c.args.phys.now.properties)
      c.loop-i.keys c.at-property.result.now.key c.add-new.result c.loop-i.invariant.marked
      c.add-new.ensures.new)).0 c.if-not-is_named.false);
  marked = one_more_named key_of c.args.phys.now.properties c.loop-i.i c.at-property.result.now
      c.loop-i.keys c.add-new.new.self c.at-property.ensures c.loop-i.invariant.marked
      c.add-new.ensures.marks;
  many = c.add-new.ensures.count ∙ c.loop-i.invariant.many;
}
