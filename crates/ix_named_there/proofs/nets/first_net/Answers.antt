use Rattle.std.proofs.Common.{◌∙◌, sym}
use Rattle.std.proofs.lemmas.Bool.{false≢true}
use Rattle.ix_legal.specs.Names.{NetIsNamed}
use Rattle.ix_walk.specs.Listed.{one_more_fits}
use Rattle.ix_named_there.proofs.Turns.{alone_decides, one_more_met}
use Rattle.ix_named_there.proofs.nets.first_net.Goals as goal

pub returns-then-not-meet : goal.returns-then-not-meet
returns-then-not-meet c = record {
  item = c.at.result.now;
  item_is = c.at.ensures;
  misfits = λ named. false≢true (sym c.if-not-meet.true ∙ (alone_decides c.args.phys.now
      c.args.count c.loop-n.n c.at.result.now c.loop-n.met c.meet.new.met c.meet.result
      c.loop-n.invariant.are_met c.meet.ensures).1 named);
  before = c.loop-n.invariant.fit;
}

pub loop-n-preserved : goal.loop-n-preserved
loop-n-preserved c = record {
  fit = one_more_fits (NetIsNamed c.args.phys.now) c.args.phys.now.nets c.loop-n.n c.at.result.now
      c.at.ensures c.loop-n.invariant.fit
      ((alone_decides c.args.phys.now c.args.count c.loop-n.n c.at.result.now c.loop-n.met
      c.meet.new.met c.meet.result c.loop-n.invariant.are_met c.meet.ensures).0
      c.if-not-meet.false);
  are_met = one_more_met c.args.phys.now c.args.count c.loop-n.n c.at.result.now c.loop-n.met
      c.meet.new.met c.meet.result c.at.ensures c.loop-n.invariant.are_met c.meet.ensures;
}
