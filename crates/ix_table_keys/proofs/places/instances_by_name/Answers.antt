use Rattle.std.proofs.Common.{arith}
use Rattle.ix_table_keys.specs.Places.{site_of}
use Rattle.ix_table_keys.proofs.Found.{one_more_by_name, none_by_name, all_by_name}
use Rattle.ix_table_keys.proofs.places.instances_by_name.Goals as goal

pub loop-i-init : goal.loop-i-init
loop-i-init c = none_by_name site_of c.args.instances.now c.args.names c.in_ok-places.places
    c.in_ok-places.ensures

pub loop-i-preserved : goal.loop-i-preserved
loop-i-preserved c = one_more_by_name site_of c.args.instances.now c.args.names c.loop-i.i c.get.result
    c.at.result.now c.loop-i.places c.put.new.self c.at.ensures c.get.ensures c.loop-i.invariant
    c.put.ensures

pub returns : goal.returns
returns c = all_by_name site_of c.args.instances.now c.args.names c.loop-i.i c.loop-i.places
    (omega arith) c.loop-i.invariant
