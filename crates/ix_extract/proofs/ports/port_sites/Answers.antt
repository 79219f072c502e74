use Rattle.std.proofs.Common.{◌≡◌, arith, length}
use Rattle.ix_extract.proofs.Fixing.{no_sites, sites_end}
use Rattle.ix_extract.proofs.ports.port_sites.Goals as goal

pub loop-cell-init : goal.loop-cell-init
loop-cell-init c = no_sites c.args.on.now.names.now c.args.on.now.device.now
    c.args.on.now.phys.now c.new-fixed.result c.new-fixed.ensures

pub returns : goal.returns
returns c =
    let past = c.loop-cell-test.false in
    let all = c.len-cell-end.ensures in
    let end : c.loop-cell.cell ≡ length c.args.on.now.phys.now.placements =
    omega (arith, past, all, c.loop-cell.auto.cell-end) in
    sites_end c.args.on.now.names.now c.args.on.now.device.now c.args.on.now.phys.now
    c.loop-cell.cell c.loop-cell.fixed end c.loop-cell.invariant
