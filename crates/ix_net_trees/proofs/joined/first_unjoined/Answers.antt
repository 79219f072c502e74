use Rattle.std.proofs.Common.{◌≡◌, ◌<◌, ℕ, arith, subst}
use Rattle.std.specs.Prelude.{length}
use Rattle.ix_rec.specs.declared.phys.PhysNet.{PhysNet}
use Rattle.ix_legal.specs.Spots.{AskedOf}
use Rattle.ix_legal.specs.Trees.{LeavesParent}
use Rattle.ix_net_trees.specs.Told.{TellsOfNet}
use Rattle.ix_net_trees.proofs.Nets.{net_kept, nets_kept, net_broken}
use Rattle.ix_net_trees.proofs.joined.first_unjoined.Goals as goal

pub returns-in-Some : goal.returns-in-Some
returns-in-Some c =
    let few : c.loop-n.n < length c.args.phys.now.nets =
    let count = c.len-n-end.ensures in let test = c.loop-n-test.true in omega (arith, count, test)
    in
    record {
      told = net_broken c.args.phys.now (λ (n : ℕ) (net : PhysNet). LeavesParent c.args.device.now
          net)
          c.loop-n.n c.in-Some.k few c.loop-n.invariant
          (subst (TellsOfNet (λ k. AskedOf c.args.phys.now.nets c.loop-n.n
          (λ net. LeavesParent c.args.device.now net k))) c.in-Some.is c.in_ok-k.ensures);
    }

pub loop-n-preserved : goal.loop-n-preserved
loop-n-preserved c =
    let few : c.loop-n.n < length c.args.phys.now.nets =
    let count = c.len-n-end.ensures in let test = c.loop-n-test.true in omega (arith, count, test)
    in
    net_kept c.args.phys.now (λ (n : ℕ) (net : PhysNet). LeavesParent c.args.device.now net)
    c.loop-n.n few c.loop-n.invariant
    (subst (TellsOfNet (λ k. AskedOf c.args.phys.now.nets c.loop-n.n
    (λ net. LeavesParent c.args.device.now net k))) c.in_default.is c.in_ok-k.ensures)

pub returns : goal.returns
returns c =
    let all : c.loop-n.n ≡ length c.args.phys.now.nets =
    let count = c.len-n-end.ensures in
    let past = c.loop-n-test.false in
    let within = c.loop-n.auto.n-end in
    omega (arith, count, past, within) in
    record {
      told = nets_kept c.args.phys.now (λ (n : ℕ) (net : PhysNet). LeavesParent c.args.device.now
          net)
          c.loop-n.n all c.loop-n.invariant;
    }
