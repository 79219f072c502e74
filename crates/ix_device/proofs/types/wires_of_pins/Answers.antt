use Rattle.std.proofs.Common.{ap, ◌∙◌, nat_eq, option_map}
use Rattle.std.specs.List.{list_any}
use Rattle.ix_first.specs.First.{value_of, or_later}
use Rattle.ix_device.proofs.WireLemmas.{one_more_wire}
use Rattle.ix_device.proofs.types.wires_of_pins.Goals as goal

pub loop-i-preserved : goal.loop-i-preserved
loop-i-preserved c =
    λ pin within. one_more_wire (λ w. list_any (nat_eq pin) w.pins) c.args.ty.now.site_wires c.loop-i.i c.at.result.now (value_of c.loop-i.table pin) _ c.at.ensures (c.loop-i.invariant pin within) (c.put_wire.ensures pin ∙ ap (λ n. option_map (λ v. or_later v (list_any (nat_eq pin) c.at.result.now.pins) n) (value_of c.loop-i.table pin)) (c.new-wire.ensures ∙ c.in_ok-number_of.ensures))
