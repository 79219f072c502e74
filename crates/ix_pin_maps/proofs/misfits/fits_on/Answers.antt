use Rattle.std.proofs.Common.{◌∙◌, sym, option_map, arith, true≢false}
use Rattle.ix_device.specs.PinsListed.{pins_listed}
use Rattle.ix_pin_maps.proofs.Admission.{is_on}
use Rattle.ix_pin_maps.proofs.Fitting.{judged}
use Rattle.ix_pin_maps.proofs.misfits.fits_on.Goals as goal

pub returns-then-all_fit-clause-fits : goal.returns-then-all_fit-clause-fits
returns-then-all_fit-clause-fits c =
    let rec = c.args.device.now in let placement = c.args.placement.now in
    let marks = c.put_pins.new.marks in
    let whole = judged rec placement c.args.at.ty c.args.at.bel
    (is_on rec placement.site placement.bel c.args.at.ty c.args.at.bel c.requires.place)
    (pins_listed c.in-Some.pins) (sym c.in-Some.ensures) c.args.turn marks
    (λ name less. c.put_pins.ensures.pins name (omega (arith, less, c.put_pins.auto.marks)))
    (option_map (λ l. l.now) c.cell-lut.result) c.cell-lut.ensures.cell
    (λ k d within. let less = c.requires.named k d within in
    omega (arith, less, c.put_pins.auto.marks)) in (
      λ yes. whole.0 (sym c.all_fit.ensures ∙ c.if-all_fit.true) (c.inputs_fit.ensures.0 yes),
      λ fits. c.inputs_fit.ensures.1 (whole.1 fits).1,
    )

pub returns-else-all_fit-clause-fits : goal.returns-else-all_fit-clause-fits
returns-else-all_fit-clause-fits c =
    let rec = c.args.device.now in let placement = c.args.placement.now in
    let marks = c.put_pins.new.marks in
    let whole = judged rec placement c.args.at.ty c.args.at.bel
    (is_on rec placement.site placement.bel c.args.at.ty c.args.at.bel c.requires.place)
    (pins_listed c.in-Some.pins) (sym c.in-Some.ensures) c.args.turn marks
    (λ name less. c.put_pins.ensures.pins name (omega (arith, less, c.put_pins.auto.marks)))
    (option_map (λ l. l.now) c.cell-lut.result) c.cell-lut.ensures.cell
    (λ k d within. let less = c.requires.named k d within in
    omega (arith, less, c.put_pins.auto.marks)) in (
      λ yes. absurd (true≢false (sym yes ∙ c.if-all_fit.false)),
      λ fits. c.all_fit.ensures ∙ (whole.1 fits).0,
    )
