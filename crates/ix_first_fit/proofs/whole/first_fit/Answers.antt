use Rattle.std.proofs.Common.{subst}
use Rattle.ix_first_fit.specs.Netlist.{IsNetlist}
use Rattle.ix_first_fit.proofs.Naming.{fitted_named}
use Rattle.ix_first_fit.proofs.whole.first_fit.Goals as goal

pub returns-clause-named : goal.returns-clause-named
returns-clause-named c names device cells =
    fitted_named names c.args.device.now c.args.cells.now c.in-Ok-netlist.phys device cells (record {
      enough = c.in-Ok.ensures.ok;
      places = c.in-Ok-fit.places;
      fit = c.in-Ok-fit.ensures.fit;
      count = c.in-Ok-fit.ensures.count;
      netlist = subst (λ places. IsNetlist c.args.device.now c.args.cells.now places c.in-Ok-netlist.phys) c.into_spots.ensures c.in-Ok-netlist.ensures;
    })
