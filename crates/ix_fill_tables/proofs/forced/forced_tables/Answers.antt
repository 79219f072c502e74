use Rattle.std.proofs.Common.{◌≡◌, ◌≤◌, ◌∙◌, ap, sym, subst, arith, length}
use Rattle.std.specs.FinMap.{len, len-empty}
use Rattle.ix_rec.specs.Maps.{pin_order}
use Rattle.ix_fill_tables.specs.Forced.{AreForced}
use Rattle.ix_fill_tables.specs.declared.forcing.ForcedBits.{ForcedBits}
use Rattle.ix_fill_tables.proofs.Among.{none_placed_yet}
use Rattle.ix_fill_tables.proofs.forced.forced_tables.Goals as goal

pub loop-k-init : goal.loop-k-init
loop-k-init c = record {
  forced = none_placed_yet c.args.on.now.device.now c.args.on.now.phys.now
      c.args.on.now.flat.now c.new-forced.result c.new-forced.ensures;
  few = subst (λ n. n ≤ 0) (sym (ap len c.new-forced.ensures ∙ len-empty pin_order ForcedBits))
      (omega arith);
}

pub returns-clause-forced : goal.returns-clause-forced
returns-clause-forced c =
    let end : c.loop-k.k ≡ length c.args.on.now.phys.now.placements = omega arith in
    subst (λ n. AreForced c.args.on.now.device.now c.args.on.now.phys.now c.args.on.now.flat.now n
    c.loop-k.forced) end c.loop-k.invariant.forced
