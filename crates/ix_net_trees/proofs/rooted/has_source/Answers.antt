use Rattle.std.proofs.Common.{◌≡◌, ◌<◌, ◌↔◌, sym, subst, arith, true, nat_lt}
use Rattle.std.specs.Prelude.{length}
use Rattle.std.proofs.lemmas.Bool.Decides.{nat_tests}
use Rattle.ix_rec.specs.declared.phys.NetType.{NetType}
use Rattle.ix_legal.specs.Trees.{HasSource}
use Rattle.ix_net_trees.proofs.Roots.{source_root}
use Rattle.ix_net_trees.proofs.rooted.has_source.Goals as goal

pub returns-in-Signal : goal.returns-in-Signal
returns-in-Signal c = subst (λ (ty : NetType). (nat_lt 0 c.len-sources.result ≡ true)
    ↔ HasSource ty c.args.net.now) (sym c.in-Signal.is) (
      λ h. let lt : 0 < length c.args.net.now.sources =
          let count = c.len-sources.ensures.count in grind (arith, nat_tests) in
          source_root c.args.net.now c.len-sources.ensures.preorder lt,
      λ root. let lt : 0 < length c.args.net.now.sources = root.0 in
          let count = c.len-sources.ensures.count in grind (arith, nat_tests),
    )
