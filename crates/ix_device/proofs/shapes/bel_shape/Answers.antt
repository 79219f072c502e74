use Rattle.std.proofs.Common.{◌≡◌, ◌∙◌, ap, sym, refl, List, ℕ, length, take, rules}
use Rattle.ix_lut.specs.declared.shape.BelShape.{BelShape}
use Rattle.ix_device.proofs.ShapeLemmas.{bel_is_usable}
use Rattle.ix_device.proofs.shapes.bel_shape.Goals as goal

pub returns-in-Some-numbers_of_lines-clause-usable : goal.returns-in-Some-numbers_of_lines-clause-usable
returns-in-Some-numbers_of_lines-clause-usable c =
    let wires : List ℕ = take c.len-inputs.result c.in-Some.wires in
    let shape : BelShape = record { low = c.args.bel.now.low_bit; inputs = c.len-inputs.result; lines = c.in-Some-numbers_of_lines.numbers } in
    let count : length (take c.len-inputs.result c.in-Some.wires) ≡ c.len-inputs.result = search rules in
    bel_is_usable c.args.pins.now.ty.now c.args.bel.now c.args.lines.now c.numbers_of_lines.new.lines wires shape c.in-Some.ensures.own (c.in-Some.ensures.wires ∙ ap (λ n. take n c.in-Some.wires) (sym c.len-inputs.ensures)) refl count
    c.len-inputs.ensures c.in-Some-numbers_of_lines.ensures.added c.in-Some-numbers_of_lines.ensures.numbers c.requires.fits
