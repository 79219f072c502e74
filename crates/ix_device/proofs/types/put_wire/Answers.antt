use Rattle.std.proofs.Common.{ap, ◌∙◌, nat_eq, option_map}
use Rattle.ix_first.specs.First.{value_of, or_later}
use Rattle.ix_device.proofs.WireLemmas.{one_more_pin}
use Rattle.ix_device.proofs.types.put_wire.Goals as goal

pub loop-i-preserved : goal.loop-i-preserved
loop-i-preserved c =
    λ pin. one_more_pin pin c.at.result.now c.args.pins.now c.loop-i.i c.args.wire (value_of c.args.table.now pin) (value_of c.loop-i.table pin) _ c.at.ensures (c.loop-i.invariant pin) (c.put.ensures pin ∙ ap (λ n. option_map (λ v. or_later v (nat_eq n pin) c.args.wire) (value_of c.loop-i.table pin)) c.get.ensures)
