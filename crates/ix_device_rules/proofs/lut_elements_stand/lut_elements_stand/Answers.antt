use Rattle.std.proofs.Common.{take, refl, sym, subst, arith}
use Rattle.ix_keys.specs.Keys.{key_eq, name_key}
use Rattle.ix_device_rules.specs.Rules
use Rattle.ix_device_rules.proofs.Steps.{walks_as, each_none, each_more, each_stops, each_done}
use Rattle.std.proofs.Common.{position}
use Rattle.ix_device_rules.proofs.Steps.{up_to}
use Rattle.ix_device_rules.proofs.EntryLemmas.{Seen, seen_none, seen_more, entry_is}
use Rattle.ix_device_rules.proofs.lut_elements_stand.lut_elements_stand.Goals as goal

pub loop-i-init : goal.loop-i-init
loop-i-init c = record { walked = each_none (Rules.elements_stand c.args.rec.now) c.args.rec.now.lut_definitions.lut_elements c.args.walk.now; seen_are = seen_none c.args.rec.now _ c.new-seen.ensures }

pub loop-i-preserved : goal.loop-i-preserved
loop-i-preserved c =
    let rec = c.args.rec.now in
    let entries = rec.lut_definitions.lut_elements in
    let e = c.at.result.now in
    let before = take c.loop-i.i entries in
    let as_entry = entry_is rec c.args.site_types.now c.args.bels.now c.args.pins.now c.requires.site_types c.requires.bels c.requires.pins before e c.loop-i.seen c.loop-i.invariant.seen_are (position (key_eq (name_key e.site)) c.args.site_types.now) refl in
    record {
      walked = each_more (Rules.elements_stand rec) entries c.loop-i.i e c.at.ensures c.loop-i.invariant.walked (walks_as as_entry c.in-Ok.ensures.walks);
      seen_are = subst (Seen rec c.entry_stands.new.seen) (sym (up_to entries c.loop-i.i e c.at.ensures)) (seen_more rec c.args.site_types.now c.args.bels.now c.args.pins.now c.requires.site_types before e c.loop-i.seen c.entry_stands.new.seen c.loop-i.invariant.seen_are c.in-Ok.ensures.seen);
    }

pub returns-in-Err : goal.returns-in-Err
unfolding Rules.lut_elements_stand
returns-in-Err c =
    let rec = c.args.rec.now in
    let entries = rec.lut_definitions.lut_elements in
    let e = c.at.result.now in
    let before = take c.loop-i.i entries in
    let as_entry = entry_is rec c.args.site_types.now c.args.bels.now c.args.pins.now c.requires.site_types c.requires.bels c.requires.pins before e c.loop-i.seen c.loop-i.invariant.seen_are (position (key_eq (name_key e.site)) c.args.site_types.now) refl in
    each_stops (Rules.elements_stand rec) entries _ c.loop-i.i e c.at.ensures c.loop-i.invariant.walked (walks_as as_entry c.in-Err.ensures.walks)

pub returns : goal.returns
unfolding Rules.lut_elements_stand
returns c = each_done (Rules.elements_stand c.args.rec.now) c.args.rec.now.lut_definitions.lut_elements c.loop-i.i (omega arith) c.loop-i.invariant.walked
