use Rattle.std.proofs.Common.{ap, ◌∙◌, ℕ, ◌++◌}
use Rattle.ix_port_bits.specs.Listed.{named_rows}
use Rattle.ix_port_bits.proofs.Listing.{net_step}
use Rattle.ix_port_bits.proofs.filling.rows_named.Goals as goal

pub loop-n-preserved : goal.loop-n-preserved
loop-n-preserved c =
    net_step c.args.own c.args.cell.now.nets c.loop-n.n c.at.result.now c.loop-n.rows.items c.put_net.new.rows.items c.at.ensures c.loop-n.invariant
    (c.in_ok-put_net.ensures ∙ ap (λ (n : ℕ). c.loop-n.rows.items ++ named_rows c.args.own n c.at.result.now.port_insts) c.in_ok-number_of.ensures)
