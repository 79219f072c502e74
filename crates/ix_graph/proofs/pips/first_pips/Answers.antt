use Rattle.std.proofs.Common.{◌∙◌, ap, nat_eq, position, arith}
use Rattle.std.proofs.lemmas.List.{take_all}
use Rattle.ix_first.specs.First.{value_at, or_found}
use Rattle.ix_graph.specs.Pips.{pips_of_type}
use Rattle.ix_graph.specs.Tables.{joins, joins_back}
use Rattle.ix_graph.proofs.FirstPipLemmas.{one_more_type}
use Rattle.ix_graph.proofs.pips.first_pips.Goals as goal

pub loop-i-preserved : goal.loop-i-preserved
loop-i-preserved c = record {
  forward =
      one_more_type (λ q. joins q.part q.name) c.args.types.now c.loop-i.i c.at.result.now c.at.ensures (value_at c.loop-i.forward) (value_at c.put_pips.new.forward) c.loop-i.invariant.forward
      (λ q. c.in_ok-put_pips.ensures.forward q ∙ ap (λ n. or_found (value_at c.loop-i.forward q) (nat_eq n q.owner) (position (joins q.part q.name) c.at.result.now)) c.in_ok-number_of.ensures);
  backward =
      one_more_type (λ q. joins_back q.part q.name) c.args.types.now c.loop-i.i c.at.result.now c.at.ensures (value_at c.loop-i.backward) (value_at c.put_pips.new.backward) c.loop-i.invariant.backward
      (λ q. c.in_ok-put_pips.ensures.backward q ∙ ap (λ n. or_found (value_at c.loop-i.backward q) (nat_eq n q.owner) (position (joins_back q.part q.name) c.at.result.now)) c.in_ok-number_of.ensures);
}

pub returns-clause-forward : goal.returns-clause-forward
returns-clause-forward c = λ q. c.loop-i.invariant.forward q ∙ ap (λ types. position (joins q.part q.name) (pips_of_type types q.owner)) (take_all c.loop-i.i c.args.types.now (omega arith))

pub returns-clause-backward : goal.returns-clause-backward
returns-clause-backward c = λ q. c.loop-i.invariant.backward q ∙ ap (λ types. position (joins_back q.part q.name) (pips_of_type types q.owner)) (take_all c.loop-i.i c.args.types.now (omega arith))
