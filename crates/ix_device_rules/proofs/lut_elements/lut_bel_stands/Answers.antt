use Rattle.std.proofs.Common.{◌≡◌, ◌∙◌, ◌∷◌, ◌&&◌, [], not, ap}
use Rattle.std.specs.List.{flat_map}
use Rattle.ix_message.specs.Indexes.{asked}
use Rattle.ix_keys.specs.Keys.{key, has_key}
use Rattle.ix_device_rules.proofs.Steps.{walks_then, stops_too, asked_as, entered_as}
use Rattle.ix_device_rules.specs.Luts.{parts_of, has_bel_by, has_pin_by, input_by}
use Rattle.ix_device_rules.proofs.lut_elements.lut_bel_stands.Goals as goal

pub returns-in-Err : goal.returns-in-Err
returns-in-Err c = stops_too (asked "LutBel" "outputPin" (has_pin_by (parts_of c.args.parts.now) c.args.bel.now.name c.args.bel.now.output_pin) ∷ []) (stops_too (flat_map (input_by (parts_of c.args.parts.now) c.args.bel.now.name) c.args.bel.now.input_pins) (stops_too (asked "LutBel" "name" (has_bel_by (parts_of c.args.parts.now) c.args.bel.now.name && not (has_key c.args.seen.now (key c.args.parts.now.name 0 c.args.bel.now.name))) ∷ []) (entered_as c.bits_fit.ensures c.in-Err.ensures)))

pub returns-in-Err-ask : goal.returns-in-Err-ask
returns-in-Err-ask c =
    let name_fits : (c.has_bel.result && not c.has-is_seen.result) ≡ (has_bel_by (parts_of c.args.parts.now) c.args.bel.now.name && not (has_key c.args.seen.now (key c.args.parts.now.name 0 c.args.bel.now.name))) = (λ i. c.has_bel.ensures i && not ((c.has-is_seen.ensures ∙ ap (has_key c.args.seen.now) c.element_key.ensures) i)) in
    stops_too (asked "LutBel" "outputPin" (has_pin_by (parts_of c.args.parts.now) c.args.bel.now.name c.args.bel.now.output_pin) ∷ []) (stops_too (flat_map (input_by (parts_of c.args.parts.now) c.args.bel.now.name) c.args.bel.now.input_pins) (walks_then (entered_as c.bits_fit.ensures c.in-Ok.ensures) (asked_as name_fits c.in-Err-ask.ensures)))

pub returns-in-Err-inputs_stand : goal.returns-in-Err-inputs_stand
returns-in-Err-inputs_stand c =
    let name_fits : (c.has_bel.result && not c.has-is_seen.result) ≡ (has_bel_by (parts_of c.args.parts.now) c.args.bel.now.name && not (has_key c.args.seen.now (key c.args.parts.now.name 0 c.args.bel.now.name))) = (λ i. c.has_bel.ensures i && not ((c.has-is_seen.ensures ∙ ap (has_key c.args.seen.now) c.element_key.ensures) i)) in
    stops_too (asked "LutBel" "outputPin" (has_pin_by (parts_of c.args.parts.now) c.args.bel.now.name c.args.bel.now.output_pin) ∷ []) (walks_then (walks_then (entered_as c.bits_fit.ensures c.in-Ok.ensures) (asked_as name_fits c.in-Ok-ask.ensures)) (c.in-Err-inputs_stand.ensures))

pub returns : goal.returns
returns c =
    let name_fits : (c.has_bel.result && not c.has-is_seen.result) ≡ (has_bel_by (parts_of c.args.parts.now) c.args.bel.now.name && not (has_key c.args.seen.now (key c.args.parts.now.name 0 c.args.bel.now.name))) = (λ i. c.has_bel.ensures i && not ((c.has-is_seen.ensures ∙ ap (has_key c.args.seen.now) c.element_key.ensures) i)) in
    walks_then (walks_then (walks_then (entered_as c.bits_fit.ensures c.in-Ok.ensures) (asked_as name_fits c.in-Ok-ask.ensures)) (c.in-Ok-inputs_stand.ensures)) (asked_as c.has_pin-there.ensures c.ask-2.ensures)
