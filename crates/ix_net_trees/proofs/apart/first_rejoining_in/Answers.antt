use Rattle.std.proofs.Common.{◌≡◌, subst, length, arith}
use Rattle.std.proofs.Common.{inl, inr}
use Rattle.std.specs.Prelude.{None}
use Rattle.std.proofs.lemmas.Bool.{cases_lt}
use Rattle.ix_legal.specs.Segments.{segments}
use Rattle.ix_legal.specs.Trees.{EntersAlone}
use Rattle.ix_net_trees.proofs.Meeting.{keeps_past}
use Rattle.ix_net_trees.proofs.Nets.{told_at}
use Rattle.ix_net_trees.proofs.apart.first_rejoining_in.Goals as goal

pub loop-k-preserved : goal.loop-k-preserved
loop-k-preserved c = record {
  met = c.is_apart.ensures.met;
  kept = λ j lt. elim (cases_lt j c.loop-k.k) [
    | inl before ↦ c.loop-k.invariant.kept j before
    | inr here ↦ let same : c.loop-k.k ≡ j = omega (arith, lt, here) in
        subst (EntersAlone c.args.wiring.now.device.now c.at-net.result.now) same
        (c.is_apart.ensures.apart.0 c.if-not-is_apart.false)
  ];
}

pub returns-clause-told : goal.returns-clause-told
returns-clause-told c = told_at c.args.wiring.now.phys.now.nets c.args.n c.at-net.result.now
    (EntersAlone c.args.wiring.now.device.now) c.at-net.ensures None (λ k.
    elim (cases_lt k (length c.row-row.result.now)) [
      | inl lt ↦ c.loop-k.invariant.kept k
          (let test = c.loop-k-test.false in omega (arith, lt, test))
      | inr ge ↦
          let all : length c.row-row.result.now ≡ length (segments c.at-net.result.now) =
          (c.requires.wired.ends.each c.args.n c.at-net.result.now c.row-row.result.now
          c.at-net.ensures c.row-row.ensures).all in
          keeps_past c.args.wiring.now.device.now c.at-net.result.now k
          (λ few. omega (arith, ge, all, few))
    ])
