use Rattle.std.proofs.Common.{ℕ, length, refl, subst, arith}
use Rattle.ix_one_net.specs.Joining.{CrossesInto}
use Rattle.ix_one_net.proofs.Leasts.{joined_none, joined_more, joined_end}
use Rattle.ix_one_net.proofs.firsts.join_all.Goals as goal

pub loop-instance-init : goal.loop-instance-init
loop-instance-init c = record {
  up = c.requires.up;
  joined = joined_none c.args.kinds.now c.args.outer.now c.args.inner.now c.args.instances.now
      (length c.args.above.now) c.args.above.now refl c.requires.apart;
  from = omega arith;
}

pub loop-instance-preserved : goal.loop-instance-preserved
loop-instance-preserved c = record {
  up = c.join_into.ensures.up;
  joined = joined_more c.args.kinds.now c.args.outer.now c.args.inner.now c.args.instances.now
      (length c.args.above.now) c.loop-instance.above c.join_into.new.above
      c.loop-instance.instance c.join_into.ensures.many c.loop-instance.invariant.joined
      (subst (λ (n : ℕ). CrossesInto c.args.kinds.now c.args.outer.now c.args.inner.now
      c.args.instances.now n c.loop-instance.above c.join_into.new.above c.loop-instance.instance)
      c.loop-instance.auto.above c.join_into.ensures.joins);
  from = omega arith;
}

pub returns-clause-joined : goal.returns-clause-joined
returns-clause-joined c =
    joined_end c.args.kinds.now c.args.outer.now c.args.inner.now c.args.instances.now
    (length c.args.above.now) c.loop-instance.above c.loop-instance.instance
    c.loop-instance.invariant.joined (omega (arith, c.loop-instance-test.false))
