use Rattle.std.proofs.Common.{sym, ◌∙◌}
use Rattle.ix_graph.specs.Pips.{conventional_from}
use Rattle.ix_graph.proofs.TypePipLemmas.{one_is_kept, one_is_passed}
use Rattle.ix_graph.proofs.type_pips.conventional.Goals as goal
use Rattle.ix_graph.proofs.type_pips.conventional.Goals.{then-is_conventional+in_ok-number_of+in_ok-push, else-is_conventional}

pub loop-i-init : goal.loop-i-init
unfolding conventional_from
loop-i-init c = c.in_ok-found.ensures

pub loop-i-preserved : goal.loop-i-preserved
loop-i-preserved c =
    elim c.if-is_conventional.branch [
      | then-is_conventional+in_ok-number_of+in_ok-push w ↦
          one_is_kept c.args.pips.now c.loop-i.i c.at-pip.result.now c.at-pip.ensures w.in_ok-number_of.field-0 c.loop-i.found c.if-is_conventional.found
          (sym c.is_conventional.ensures ∙ w.if-is_conventional.true) w.in_ok-number_of.ensures c.loop-i.invariant (w.found-is ∙ w.in_ok-push.ensures.ok)
      | else-is_conventional w ↦
          one_is_passed c.args.pips.now c.loop-i.i c.at-pip.result.now c.at-pip.ensures c.loop-i.found c.if-is_conventional.found
          (sym c.is_conventional.ensures ∙ w.if-is_conventional.false) c.loop-i.invariant w.found-is
    ]
