use Rattle.std.proofs.Common.{◌∙◌, ◌∷◌, [], List, take, map, ap, sym}
use Rattle.std.specs.List.{flat_map}
use Rattle.ix_message.specs.Indexes.{Step, begun}
use Rattle.ix_keys.specs.Keys.{name_key}
use Rattle.ix_device_rules.specs.Rules
use Rattle.ix_device_rules.proofs.Steps.{walks_as, by_earlier-same, flat_up_to, each_none, each_more, each_stops}
use Rattle.ix_device_rules.proofs.TableLemmas.{same_none, same_as, same_join}
use Rattle.ix_device_rules.specs.Named.{pin_is_new}
use Rattle.ix_device_rules.proofs.NameLemmas.{pin_new}
use Rattle.std.proofs.lemmas.List.{map-append}
use Rattle.ix_device_rules.proofs.pins_on_one_wire.site_type_fits.Goals as goal

pub loop-i-init : goal.loop-i-init
loop-i-init c = record { walked = each_none Rules.site_wire_pins c.args.site_type.now.site_wires c.args.walk.now; table_is = same_none _ c.new-seen.ensures }

pub loop-i-preserved : goal.loop-i-preserved
loop-i-preserved c =
    let x = c.at.result.now in
    let wires = c.args.site_type.now.site_wires in
    let before = take c.loop-i.i wires in
    let as_pins = ap (λ (l : List Step). begun "SiteWire" ∷ l) (by_earlier-same (pin_is_new c.loop-i.seen) (Rules.wire_pins before) (pin_new before c.loop-i.seen c.loop-i.invariant.table_is) [] x.pins) in
    record {
      walked = each_more (Rules.site_wire_pins) (wires) c.loop-i.i c.at.result.now c.at.ensures c.loop-i.invariant.walked (walks_as as_pins c.in-Ok.ensures.walks);
      table_is = same_as (sym (map-append (λ p. name_key p) (flat_map (λ w. w.pins) before) x.pins) ∙ ap (map (λ p. name_key p)) (sym (flat_up_to (λ w. w.pins) wires c.loop-i.i x c.at.ensures))) (same_join c.loop-i.seen c.wire_is_new.new.seen (map (λ p. name_key p) (flat_map (λ w. w.pins) before)) (map (λ p. name_key p) x.pins) c.loop-i.invariant.table_is c.in-Ok.ensures.seen);
    }

pub returns-in-Err : goal.returns-in-Err
returns-in-Err c =
    let x = c.at.result.now in
    let wires = c.args.site_type.now.site_wires in
    let before = take c.loop-i.i wires in
    let as_pins = ap (λ (l : List Step). begun "SiteWire" ∷ l) (by_earlier-same (pin_is_new c.loop-i.seen) (Rules.wire_pins before) (pin_new before c.loop-i.seen c.loop-i.invariant.table_is) [] x.pins) in
    each_stops (Rules.site_wire_pins) (wires) _ c.loop-i.i c.at.result.now c.at.ensures c.loop-i.invariant.walked (walks_as as_pins c.in-Err.ensures.walks)
