use Rattle.std.proofs.Common.{sym, ap, ◌∙◌, Vec, Global}
use Rattle.ix_hierarchy.specs.declared.row.Row.{Row}
use Rattle.ix_port_bits.proofs.Listing.{named_then, named_else}
use Rattle.ix_port_bits.proofs.filling.put_net.Goals as goal
use Rattle.ix_port_bits.proofs.filling.put_net.Goals.{then-wanted+in_ok-push, else-wanted}

pub loop-i-preserved : goal.loop-i-preserved
loop-i-preserved c = elim c.if-wanted.branch [
  | then-wanted+in_ok-push w ↦
      named_then c.args.own c.args.number c.args.net.now.port_insts c.loop-i.i c.at-named.result.now
      c.args.rows.now.items c.loop-i.rows.items c.if-wanted.rows.items w.row_of_bit.result c.at-named.ensures
      c.loop-i.invariant (sym c.wanted.ensures ∙ w.if-wanted.true)
      (ap (λ (v : Vec Row Global). v.items) w.rows-is ∙ w.in_ok-push.ensures.items) w.row_of_bit.ensures
  | else-wanted w ↦
      named_else c.args.own c.args.number c.args.net.now.port_insts c.loop-i.i c.at-named.result.now
      c.args.rows.now.items c.loop-i.rows.items c.if-wanted.rows.items c.at-named.ensures
      c.loop-i.invariant (sym c.wanted.ensures ∙ w.if-wanted.false)
      (ap (λ (v : Vec Row Global). v.items) w.rows-is)
]
