use Rattle.std.proofs.Common.{◌∙◌, arith}
use Rattle.ix_net_states.proofs.Walks.{all_done}
use Rattle.ix_net_states.proofs.states.put_all.Goals as goal

pub loop-instance-init : goal.loop-instance-init
loop-instance-init c = (
  c.put_bits.auto.states ∙ c.requires.many,
  λ known ready none.
      c.put_bits.ensures known ready none,
)

pub loop-instance-preserved : goal.loop-instance-preserved
loop-instance-preserved c = (
  c.put_instance.auto.states ∙ c.loop-instance.invariant.0,
  λ known ready none. c.put_instance.ensures known ready.are ready.constants_are
      (c.loop-instance.invariant.1 known ready none),
)

pub returns : goal.returns
returns c = λ known ready none.
    all_done known c.args.rec.now c.args.joined.now c.loop-instance.instance c.loop-instance.states
    ready.are (omega (arith, c.args.joined.now.instances.ok.0))
    (c.loop-instance.invariant.1 known ready none)
