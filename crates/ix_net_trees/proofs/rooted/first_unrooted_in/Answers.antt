use Rattle.std.proofs.Common.{◌≡◌, subst, length, arith, inl, inr}
use Rattle.std.proofs.lemmas.Bool.{cases_lt}
use Rattle.ix_legal.specs.Segments.{segments}
use Rattle.ix_legal.specs.Trees.{RootFits}
use Rattle.ix_net_trees.proofs.Roots.{fits_past}
use Rattle.ix_net_trees.proofs.rooted.first_unrooted_in.Goals as goal

pub loop-k-preserved : goal.loop-k-preserved
loop-k-preserved c = λ j lt. elim (cases_lt j c.loop-k.k) [
  | inl before ↦ c.loop-k.invariant j before
  | inr here ↦ let same : c.loop-k.k ≡ j = omega (arith, lt, here) in
      subst (RootFits c.args.known.now.device.now c.args.known.now.phys.now c.args.net.now) same
      (c.root_fits.ensures.0 c.if-not-root_fits.false)
]

pub returns : goal.returns
returns c = λ k. elim (cases_lt k (length c.args.row.now)) [
  | inl lt ↦ c.loop-k.invariant k (let test = c.loop-k-test.false in omega (arith, lt, test))
  | inr ge ↦
      let all : length c.args.row.now ≡ length (segments c.args.net.now) = c.requires.row.all in
      fits_past c.args.known.now.device.now c.args.known.now.phys.now c.args.net.now k
      (λ few. omega (arith, ge, all, few))
]
