use Rattle.ix_extract.proofs.Growing.{no_pins, pins_next}
use Rattle.ix_extract.proofs.pins.pins_on_nets.Goals as goal

pub loop-cell-init : goal.loop-cell-init
loop-cell-init c = no_pins c.args.on.now.device.now c.args.on.now.phys.now c.new-pins.result
    c.new-pins.ensures

pub loop-cell-preserved : goal.loop-cell-preserved
loop-cell-preserved c = pins_next c.args.on.now.device.now c.args.on.now.phys.now c.loop-cell.cell
    c.loop-cell.pins c.put_cell.new.pins c.loop-cell.invariant c.in_ok-put_cell.ensures
