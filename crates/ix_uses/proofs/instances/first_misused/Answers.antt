use Rattle.std.proofs.Common.{◌∙◌, sym, arith}
use Rattle.std.proofs.lemmas.Bool.{false≢true}
use Rattle.ix_walk.specs.Listed.{all_fit}
use Rattle.ix_uses.specs.Fitting.{InstanceFitsAt}
use Rattle.ix_uses.proofs.Fitted.{one_more_used}
use Rattle.ix_uses.proofs.instances.first_misused.Goals as goal
use Rattle.ix_uses.proofs.instances.first_misused.Goals.{then-new, else-new}

pub loop-i-preserved : goal.loop-i-preserved
loop-i-preserved c = elim c.if-new.branch [
  | then-new w ↦ one_more_used c.args.device.now c.args.instances.now _ c.loop-i.i
      c.at-instance.result.now c.loop-i.sites c.add-new.new.self c.add-new.result
      c.at-instance.ensures c.loop-i.invariant c.add-new.ensures.new w.if-new.true
      (w.has_own_type.ensures.0 (sym w.value-is ∙ c.if-not-has_own_type.false))
      c.add-new.ensures.marks c.add-new.ensures.count
  | else-new w ↦ absurd (false≢true (sym w.if-new.false ∙ sym w.value-is
      ∙ c.if-not-has_own_type.false))
]

pub returns-clause-told : goal.returns-clause-told
returns-clause-told c = all_fit (InstanceFitsAt c.args.device.now c.args.instances.now)
    c.args.instances.now c.loop-i.i (omega arith) c.loop-i.invariant.fit
