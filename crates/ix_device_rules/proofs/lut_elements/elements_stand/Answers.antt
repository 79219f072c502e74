use Rattle.std.proofs.Common.{◌++◌, take}
use Rattle.std.specs.List.{flat_map}
use Rattle.ix_device_rules.proofs.Steps.{walks_as, each_none, each_more, each_stops}
use Rattle.ix_device_rules.proofs.TableLemmas.{same_begin}
use Rattle.ix_device_rules.specs.Luts.{parts_of, element_keys, element_after}
use Rattle.ix_device_rules.proofs.LutLemmas.{element_same}
use Rattle.ix_device_rules.proofs.TableLemmas.{same_flat_on}
use Rattle.ix_device_rules.proofs.lut_elements.elements_stand.Goals as goal

pub loop-i-init : goal.loop-i-init
loop-i-init c = record { walked = each_none (element_after (parts_of c.args.parts.now) c.args.seen.now) c.args.elements.now c.args.walk.now; table_is = same_begin c.args.seen.now }

pub loop-i-preserved : goal.loop-i-preserved
loop-i-preserved c =
    let k = parts_of c.args.parts.now in
    let e = c.at.result.now in
    let before = take c.loop-i.i c.args.elements.now in
    let as_after = element_same k c.loop-i.seen (c.args.seen.now ++ flat_map (element_keys k.site) before) c.loop-i.invariant.table_is e in
    record {
      walked = each_more (element_after k c.args.seen.now) (c.args.elements.now) c.loop-i.i c.at.result.now c.at.ensures c.loop-i.invariant.walked (walks_as as_after c.in-Ok.ensures.walks);
      table_is = same_flat_on (element_keys k.site) c.args.seen.now c.args.elements.now c.loop-i.i e c.loop-i.seen c.element_stands.new.seen c.at.ensures c.loop-i.invariant.table_is c.in-Ok.ensures.seen;
    }

pub returns-in-Err-clause-walks : goal.returns-in-Err-clause-walks
returns-in-Err-clause-walks c =
    let k = parts_of c.args.parts.now in
    let e = c.at.result.now in
    let before = take c.loop-i.i c.args.elements.now in
    let as_after = element_same k c.loop-i.seen (c.args.seen.now ++ flat_map (element_keys k.site) before) c.loop-i.invariant.table_is e in
    each_stops (element_after k c.args.seen.now) (c.args.elements.now) _ c.loop-i.i c.at.result.now c.at.ensures c.loop-i.invariant.walked (walks_as as_after c.in-Err.ensures.walks)
