use Rattle.std.proofs.Common.{ap, sym, ◌∙◌, option_map}
use Rattle.ix_extract.proofs.Growing.{lut_whole, on_ok, plain_whole}
use Rattle.ix_extract.proofs.pins.put_placed.Goals as goal

pub returns-in-None : goal.returns-in-None
returns-in-None c =
    let at = c.args.at.now in
    on_ok c.put_by_device.result (plain_whole c.args.on.now.device.now c.args.on.now.phys.now
    at.cell at.placement.now at.site at.ty c.requires.at (sym c.cell.ensures.cell
    ∙ ap (option_map (λ x. x.now)) c.in-None.is) c.args.pins.now c.put_by_device.new.pins)
    c.put_by_device.ensures

pub returns-in_ok-put_inputs-in-Some : goal.returns-in_ok-put_inputs-in-Some
returns-in_ok-put_inputs-in-Some c =
    let at = c.args.at.now in
    on_ok c.put_by_device-in-Some.result (lut_whole c.args.on.now.device.now
    c.args.on.now.phys.now at.cell at.placement.now at.site at.ty c.requires.at c.in-Some.lut.now
    (sym c.cell.ensures.cell ∙ ap (option_map (λ x. x.now)) c.in-Some.is) c.args.pins.now
    c.put_inputs.new.pins c.put_by_device-in-Some.new.pins c.in_ok-put_inputs-in-Some.ensures)
    c.put_by_device-in-Some.ensures
