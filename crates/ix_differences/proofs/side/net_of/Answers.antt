use Rattle.std.proofs.Common.{◌∙◌, sym}
use Rattle.ix_differences.proofs.Turns.{net_there}
use Rattle.ix_differences.proofs.side.net_of.Goals as goal

pub named_net-requires : goal.named_net-requires
named_net-requires c = net_there c.args.side.now.flat.now c.in_ok-cell.cell c.args.pin
    c.in_ok-net.net c.requires.fits (sym c.get.ensures ∙ c.in_ok-net.was)
