use Rattle.std.proofs.Common.{subst, ◌≤◌, length, arith, take_all}
use Rattle.ix_device.specs.Listed.{PutsMap}
use Rattle.ix_device.proofs.Listings.{one_more_entry}
use Rattle.ix_device.proofs.admissions.put_map.Goals as goal

pub loop-i-preserved : goal.loop-i-preserved
loop-i-preserved c = one_more_entry c.args.types.now c.args.table.now c.loop-i.table c.put_entry.new.table c.args.map.now c.args.entries.now c.args.pins.now c.loop-i.i c.at.result.now c.at.ensures c.loop-i.invariant c.in_ok-put_entry.ensures

pub returns : goal.returns
returns c =
    let le : length c.args.entries.now ≤ c.loop-i.i = omega arith in
    subst (λ l. PutsMap c.args.types.now c.args.table.now c.loop-i.table c.args.map.now l c.args.pins.now) (take_all c.loop-i.i c.args.entries.now le) c.loop-i.invariant
