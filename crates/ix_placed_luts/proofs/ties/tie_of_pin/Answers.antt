use Rattle.std.proofs.Common.{sym}
use Rattle.ix_placed_luts.proofs.Sites.{wire_in_site}
use Rattle.ix_placed_luts.proofs.ties.tie_of_pin.Goals as goal

pub tie_of_wire-requires-clause-there : goal.tie_of_wire-requires-clause-there
tie_of_wire-requires-clause-there c = wire_in_site c.args.on.now.device.now c.args.on.now.site
    c.args.on.now.ty c.requires.ty c.in-Some.pin c.in-Some-wire_of.wire
    (sym c.in-Some-wire_of.ensures)
