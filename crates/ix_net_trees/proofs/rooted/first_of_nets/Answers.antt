use Rattle.std.proofs.Common.{◌≡◌, ◌+◌, subst, ℕ, suc, arith}
use Rattle.std.specs.Prelude.{length}
use Rattle.ix_rec.specs.declared.phys.PhysNet.{PhysNet}
use Rattle.ix_legal.specs.Breaks.{AreKept, one_more_kept, all_kept}
use Rattle.ix_legal.specs.Trees.{HasSource, RootFits}
use Rattle.ix_net_trees.proofs.rooted.first_of_nets.Goals as goal

pub loop-n-preserved : goal.loop-n-preserved
loop-n-preserved c =
    let e : suc c.loop-n.n ≡ c.loop-n.n + 1 = omega arith in
    subst (AreKept c.args.known.now.phys.now (λ (n : ℕ) (net : PhysNet). HasSource net.ty net)
    (λ (n : ℕ) (net : PhysNet). RootFits c.args.known.now.device.now c.args.known.now.phys.now
    net)) e
    (one_more_kept c.args.known.now.phys.now (λ (n : ℕ) (net : PhysNet). HasSource net.ty net)
    (λ (n : ℕ) (net : PhysNet). RootFits c.args.known.now.device.now c.args.known.now.phys.now net)
    c.loop-n.n c.at-net.result.now c.at-net.ensures c.loop-n.invariant
    (c.has_source.ensures.0 c.if-not-has_source.false) c.in_default.ensures)

pub returns : goal.returns
returns c =
    let all : c.loop-n.n ≡ length c.args.known.now.phys.now.nets =
    let count = c.len-n-end.ensures in
    let past = c.loop-n-test.false in
    let within = c.loop-n.auto.n-end in
    omega (arith, count, past, within) in
    all_kept c.args.known.now.phys.now (λ (n : ℕ) (net : PhysNet). HasSource net.ty net)
    (λ (n : ℕ) (net : PhysNet). RootFits c.args.known.now.device.now c.args.known.now.phys.now net)
    (subst (AreKept c.args.known.now.phys.now (λ (n : ℕ) (net : PhysNet). HasSource net.ty net)
    (λ (n : ℕ) (net : PhysNet). RootFits c.args.known.now.device.now c.args.known.now.phys.now
    net)) all c.loop-n.invariant)
