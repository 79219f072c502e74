use Rattle.std.proofs.Common.{◌≡◌, ap, sym, ◌∙◌, slice_get, length, arith}
use Rattle.ix_graph.proofs.EntryLemmas.{one_more_entry, all_put}
use Rattle.ix_graph.proofs.nodes.put_entries.Goals as goal

pub loop-i-preserved : goal.loop-i-preserved
loop-i-preserved c =
    one_more_entry c.args.device.now c.loop-i.i c.at.result.now c.loop-i.tables c.put_entry.new.tables c.loop-i.firsts c.put_entry.new.firsts
    (ap (λ r. slice_get r.nodes c.loop-i.i) (sym c.rec-rec.ensures.same) ∙ c.at.ensures) c.in_ok-put_entry.ensures.tables c.in_ok-put_entry.ensures.firsts c.loop-i.invariant

pub returns-clause-firsts : goal.returns-clause-firsts
returns-clause-firsts c = (all_put c.args.device.now c.loop-i.i c.loop-i.tables c.loop-i.firsts (let same : length c.rec-rec.result.now.nodes ≡ length c.args.device.now.nodes = ap (λ r. length r.nodes) c.rec-rec.ensures.same in omega arith) c.loop-i.invariant).1

pub returns-clause-tables : goal.returns-clause-tables
returns-clause-tables c = (all_put c.args.device.now c.loop-i.i c.loop-i.tables c.loop-i.firsts (let same : length c.rec-rec.result.now.nodes ≡ length c.args.device.now.nodes = ap (λ r. length r.nodes) c.rec-rec.ensures.same in omega arith) c.loop-i.invariant).0
