use Rattle.std.proofs.Common.{◌≡◌, sym, subst, refl, length, arith}
use Rattle.std.specs.FinMap.{empty}
use Rattle.ix_fill_tables.specs.Holdings.{Adds, IsOfNets, Holdings}
use Rattle.ix_fill_tables.proofs.Wires.{adds_none, no_net, next_net, are_holdings}
use Rattle.ix_fill_tables.proofs.constants.ConstantWires.new.Goals as goal

pub loop-n-init : goal.loop-n-init
loop-n-init c = subst (λ (m : Holdings). Adds (IsOfNets c.args.device.now c.args.phys.now.nets 0)
    empty m) (sym c.new.ensures)
    (adds_none (IsOfNets c.args.device.now c.args.phys.now.nets 0) empty
    (no_net c.args.device.now c.args.phys.now.nets))

pub loop-n-preserved : goal.loop-n-preserved
loop-n-preserved c = next_net c.args.device.now c.args.phys.now.nets c.loop-n.n c.at.result.now
    empty c.loop-n.wires.holdings c.add_net.new.self.holdings c.at.ensures c.loop-n.invariant
    c.in_ok-add_net.ensures

pub returns : goal.returns
returns c =
    let end : c.loop-n.n ≡ length c.args.phys.now.nets = omega arith in
    are_holdings c.args.device.now c.args.phys.now.nets empty c.loop-n.wires.holdings refl
    (subst (λ n. Adds (IsOfNets c.args.device.now c.args.phys.now.nets n) empty
    c.loop-n.wires.holdings) end c.loop-n.invariant)
