use Rattle.ix_first_fit.proofs.Netlists.{fit_sites}
use Rattle.ix_first_fit.proofs.netlist.netlist.Goals as goal

pub instances-requires : goal.instances-requires
instances-requires c = fit_sites c.args.device.now c.args.cells.now c.args.spots.now c.requires.fit c.requires.count
