use Rattle.std.proofs.Common.{◌≡◌, ◌∙◌, ◌+◌, List, ℕ, MatchOption, sym, subst, length, arith}
use Rattle.ix_legal.specs.Placements.{MapsInputs}
use Rattle.ix_pin_maps.specs.Inputs.{MapsFirst}
use Rattle.ix_pin_maps.proofs.InputLemmas.{one_more_input, no_pin, no_place, taken, all_inputs}
use Rattle.ix_pin_maps.proofs.inputs.input_places.Goals as goal

pub returns-in_err-pin : goal.returns-in_err-pin
returns-in_err-pin c =
    let lut = c.args.lut.now in let bel = c.args.bel.now in let placement = c.args.placement.now in
    subst (λ o. MatchOption o ((places : List ℕ) → MapsInputs lut bel placement places → ⊥)
    (MapsInputs lut bel placement)) (sym c.from_residual.ensures)
    (no_pin lut bel placement c.loop-i.i c.at.result.now c.at.ensures c.in_err-pin.ensures)

pub returns-in_err-place : goal.returns-in_err-place
returns-in_err-place c =
    let lut = c.args.lut.now in let bel = c.args.bel.now in let placement = c.args.placement.now in
    subst (λ o. MatchOption o ((places : List ℕ) → MapsInputs lut bel placement places → ⊥)
    (MapsInputs lut bel placement)) (sym c.from_residual-in_err-place.ensures)
    (no_place lut bel placement c.loop-i.i c.at.result.now c.in_ok-pin.pin c.at.ensures
    c.in_ok-pin.ensures (sym c.in_err-place.ensures.place))

pub returns-then-has : goal.returns-then-has
returns-then-has c =
    taken c.args.lut.now c.args.bel.now c.args.placement.now c.requires.differ c.loop-i.i
    c.at.result.now c.in_ok-pin.pin c.in_ok-place.field-0 c.loop-i.places c.loop-i.invariant
    c.at.ensures c.in_ok-pin.ensures (sym c.in_ok-place.ensures.place)
    (sym c.has.ensures ∙ c.if-has.true)

pub loop-i-preserved : goal.loop-i-preserved
loop-i-preserved c =
    subst (MapsFirst c.args.lut.now c.args.bel.now c.args.placement.now (c.loop-i.i + 1))
    (sym c.push.ensures)
    (one_more_input c.args.lut.now c.args.bel.now c.args.placement.now c.loop-i.i c.at.result.now
    c.in_ok-pin.pin c.in_ok-place.field-0 c.loop-i.places c.loop-i.invariant c.at.ensures
    c.in_ok-pin.ensures (sym c.in_ok-place.ensures.place) (sym c.has.ensures ∙ c.if-has.false))

pub returns : goal.returns
returns c =
    let end : c.loop-i.i ≡ length c.args.lut.now.input_pins =
    omega (arith, c.loop-i-test.false, c.loop-i.auto.i-end, c.len-i-end.ensures) in
    all_inputs c.args.lut.now c.args.bel.now c.args.placement.now c.loop-i.i c.loop-i.places end
    c.loop-i.invariant
