use Rattle.std.proofs.Common.{sym}
use Rattle.ix_fill_tables.proofs.Wires.{adds_net, on_ok}
use Rattle.ix_fill_tables.proofs.constants.ConstantWires.add_net.Goals as goal

pub returns-in_ok-add_trees-in-Some : goal.returns-in_ok-add_trees-in-Some
returns-in_ok-add_trees-in-Some c = on_ok c.add_trees-in-Some.result
    (adds_net c.args.device.now c.args.net.now c.in-Some.constant (sym c.in-Some.ensures)
    c.args.self.now.holdings c.add_trees.new.self.holdings c.add_trees-in-Some.new.self.holdings
    c.in_ok-add_trees-in-Some.ensures) c.add_trees-in-Some.ensures
