use Rattle.std.proofs.Common.{◌≤◌, arith, length}
use Rattle.ix_extract.proofs.Growing.{all_inputs, input_next, stands_as_input}
use Rattle.ix_extract.proofs.pins.put_inputs.Goals as goal

pub put_input-requires-clause-input : goal.put_input-requires-clause-input
put_input-requires-clause-input c =
    let at = c.args.at.now in
    stands_as_input c.args.on.now.device.now c.args.on.now.phys.now at.cell at.placement.now at.site
    at.ty c.requires.at c.args.lut.now c.requires.lut c.loop-j.j c.at.result.now c.at.ensures

pub loop-j-preserved : goal.loop-j-preserved
loop-j-preserved c =
    let at = c.args.at.now in
    input_next c.args.on.now.device.now c.args.on.now.phys.now at.cell at.placement.now at.site
    at.ty c.requires.at c.args.lut.now c.requires.lut c.loop-j.j c.at.result.now c.args.pins.now
    c.loop-j.pins c.put_input.new.pins c.at.ensures c.loop-j.invariant c.in_ok-put_input.ensures

pub returns : goal.returns
returns c =
    let at = c.args.at.now in
    let all = c.len-j-end.ensures in
    let past = c.loop-j-test.false in
    let end : length c.args.lut.now.input_pins ≤ c.loop-j.j = omega (arith, all, past) in
    all_inputs c.args.on.now.device.now c.args.on.now.phys.now at.cell at.placement.now at.site
    at.ty c.requires.at c.args.lut.now c.requires.lut c.loop-j.j end c.args.pins.now c.loop-j.pins
    c.loop-j.invariant
