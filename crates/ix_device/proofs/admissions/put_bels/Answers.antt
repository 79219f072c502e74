use Rattle.std.proofs.Common.{◌&&◌}
use Rattle.std.specs.List.{list_all}
use Rattle.ix_first.specs.First.{value_at}
use Rattle.ix_device_rules.specs.Rules.{has_pin}
use Rattle.ix_device.specs.Listed.{listing}
use Rattle.ix_device.proofs.Listings.{one_more_put}
use Rattle.ix_device.proofs.admissions.put_bels.Goals as goal

pub loop-i-preserved : goal.loop-i-preserved
loop-i-preserved c =
    one_more_put c.args.owner c.args.map.now.cell c.args.bels.now c.loop-i.i c.at.result.now (λ b. listing c.args.map.now.mapping c.args.map.now.pin_map (c.args.map.now.differ && list_all (λ p. has_pin c.args.t.now b p.bel_pin) c.args.pins.now))
    (value_at c.args.table.now) (value_at c.loop-i.table) (value_at c.put_bel.new.table) c.at.ensures c.loop-i.invariant c.in_ok-put_bel.ensures
