use Rattle.std.proofs.Common.{◌≡◌, ◌≤◌, ◌<◌, arith, length, refl}
use Rattle.ix_lut.specs.declared.shape.ElementShape.{ElementShape}
use Rattle.ix_device.proofs.ShapeLemmas.{shapeless, shape_whole, shape_usable, one_more_shape}
use Rattle.ix_device.proofs.shapes.shape_of.Goals as goal

pub loop-i-preserved : goal.loop-i-preserved
loop-i-preserved c =
    one_more_shape c.args.pins.now.ty.now c.args.element.now c.loop-i.i c.loop-i.lines c.loop-i.bels c.loop-i.invariant c.at.result.now c.at.ensures c.bel_shape.new.lines c.in-Some.bel
    c.in-Some.ensures.own c.in-Some.ensures.added c.in-Some.ensures.seen c.in-Some.ensures.usable
    (let within : c.loop-i.i < 8 = omega (arith, c.loop-i-test.true, c.if-count-gt-MOST_BELS.false) in within)

pub returns-in-None : goal.returns-in-None
returns-in-None c = record {
  shape = shapeless c.args.pins.now.ty.now c.args.element.now c.loop-i.i c.loop-i.lines c.loop-i.bels c.loop-i.invariant c.at.result.now c.at.ensures c.in-None.ensures.none;
  usable = tt;
}

pub returns : goal.returns
returns c =
    let end : c.loop-i.i ≡ length c.args.element.now.bels = omega (arith, c.loop-i-test.false, c.loop-i.auto.i-end, c.len-count.ensures) in
    let small : length c.args.element.now.bels ≤ 8 = omega (arith, c.if-count-gt-MOST_BELS.false, c.len-count.ensures) in
    let count : c.len-count.result ≡ c.loop-i.i = omega (arith, c.loop-i-test.false, c.loop-i.auto.i-end) in
    let few : c.loop-i.i ≤ 8 = omega (arith, end, small) in
    let s : ElementShape = record { lines = c.len.result; bel_count = c.len-count.result; bels = c.loop-i.bels } in
    record {
      shape = shape_whole c.args.pins.now.ty.now c.args.element.now c.loop-i.i c.loop-i.lines c.loop-i.bels c.loop-i.invariant end small c.len.ensures.few s c.len.ensures.count count refl;
      usable = shape_usable c.args.pins.now.ty.now c.args.element.now c.loop-i.i c.loop-i.lines c.loop-i.bels c.loop-i.invariant few c.len.ensures.few s c.len.ensures.count count refl;
    }
