use Rattle.std.proofs.Common.{sym, subst}
use Rattle.ix_fill_tables.specs.Forced.{AreForcedBy}
use Rattle.ix_fill_tables.proofs.Forces.{forced_or_none}
use Rattle.ix_fill_tables.proofs.forced.forced_by.Goals as goal

pub returns : goal.returns
returns c =
    let rec = c.args.on.now.device.now in let phys = c.args.on.now.phys.now in
    let flat = c.args.on.now.flat.now in
    subst (AreForcedBy rec phys flat c.args.placement.now) (sym c.so_far.ensures)
    (forced_or_none rec phys flat c.args.placement.now c.bits_of.result c.bits_of.ensures)
