use Rattle.std.proofs.Common.{[], subst, sym, ◌∙◌, arith}
use Rattle.ix_graph.specs.NodeTables.{HaveNumbers}
use Rattle.ix_graph.proofs.TileNumbers.{count_of_type}
use Rattle.ix_graph.proofs.EntryLemmas.{one_more_empty, all_empty}
use Rattle.ix_graph.proofs.nodes.empty_tables.Goals as goal

pub loop-i-preserved : goal.loop-i-preserved
loop-i-preserved c =
    one_more_empty c.rec-rec.result.now c.loop-i.i c.at.result.now c.len-in-loop-i.result c.in_ok-new.field-0 c.loop-i.tables.items c.push.new.self.items c.at.ensures
    (c.len-in-loop-i.ensures ∙ sym (count_of_type c.rec-rec.result.now c.at.result.now c.at-ty.result.now c.at-ty.ensures)) c.in_ok-new.ensures c.in_ok-push.ensures.items c.loop-i.invariant

pub returns-clause-empty : goal.returns-clause-empty
returns-clause-empty c = subst (λ r. HaveNumbers r c.loop-i.tables.items []) c.rec-rec.ensures.same (all_empty c.rec-rec.result.now c.loop-i.i c.loop-i.tables.items (omega arith) c.loop-i.invariant)
