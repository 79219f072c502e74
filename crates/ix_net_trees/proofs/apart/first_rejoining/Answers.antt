use Rattle.std.proofs.Common.{◌≡◌, ◌<◌, ℕ, arith}
use Rattle.std.specs.Prelude.{length}
use Rattle.ix_rec.specs.declared.phys.PhysNet.{PhysNet}
use Rattle.ix_legal.specs.Trees.{EntersAlone}
use Rattle.ix_net_trees.proofs.Nets.{net_kept, nets_kept, net_broken}
use Rattle.ix_net_trees.proofs.apart.first_rejoining.Goals as goal

pub returns-in-Some : goal.returns-in-Some
returns-in-Some c =
    let few : c.loop-n.n < length c.args.phys.now.nets =
    let count = c.len-n-end.ensures in let test = c.loop-n-test.true in omega (arith, count, test)
    in
    record {
      told = net_broken c.args.phys.now (λ (n : ℕ) (net : PhysNet). EntersAlone c.args.device.now
          net)
          c.loop-n.n c.in-Some.k few c.loop-n.invariant.kept c.in-Some.ensures.told;
    }

pub loop-n-preserved : goal.loop-n-preserved
loop-n-preserved c =
    let few : c.loop-n.n < length c.args.phys.now.nets =
    let count = c.len-n-end.ensures in let test = c.loop-n-test.true in omega (arith, count, test)
    in
    record {
      unmet = c.first_rejoining_in.ensures.unmet;
      kept = net_kept c.args.phys.now (λ (n : ℕ) (net : PhysNet). EntersAlone c.args.device.now net)
          c.loop-n.n few c.loop-n.invariant.kept c.in_default.ensures.told;
    }

pub returns : goal.returns
returns c =
    let all : c.loop-n.n ≡ length c.args.phys.now.nets =
    let count = c.len-n-end.ensures in
    let past = c.loop-n-test.false in
    let within = c.loop-n.auto.n-end in
    omega (arith, count, past, within) in
    record {
      told = nets_kept c.args.phys.now (λ (n : ℕ) (net : PhysNet). EntersAlone c.args.device.now
          net)
          c.loop-n.n all c.loop-n.invariant.kept;
    }
