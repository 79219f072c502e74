use Rattle.std.proofs.Common.{length, refl}
use Rattle.std.proofs.lemmas.Option.{slice_get-get_or}
use Rattle.ix_one_net.proofs.Crossing.{leaf_crosses, one_declared}
use Rattle.ix_one_net.proofs.Reached.{kind_leaf}
use Rattle.ix_one_net.proofs.firsts.join_into.Goals as goal

pub bounds : goal.bounds
bounds c =
    one_declared c.args.kinds.now c.args.outer.now c.args.inner.now c.args.instances.now
    (length c.args.above.now) c.args.instance _ c.requires.known c.requires.below c.requires.inside
    (slice_get-get_or c.args.instances.now c.args.instance _ c.requires.inside)

pub returns-in_default : goal.returns-in_default
returns-in_default c =
    let declared = one_declared c.args.kinds.now c.args.outer.now c.args.inner.now
    c.args.instances.now (length c.args.above.now) c.args.instance _ c.requires.known
    c.requires.below c.requires.inside
    (slice_get-get_or c.args.instances.now c.args.instance _ c.requires.inside) in
    record {
      up = c.requires.up;
      many = refl;
      joins = leaf_crosses c.args.kinds.now c.args.outer.now c.args.inner.now c.args.instances.now
          (length c.args.above.now) c.args.above.now c.args.instance _ c.requires.below
          c.requires.inside
          (slice_get-get_or c.args.instances.now c.args.instance _ c.requires.inside)
          (λ design device paths K. kind_leaf device design c.args.kinds.now _ _
          K.joinable.listed.are_kinds
          (slice_get-get_or c.args.kinds.now _ _ declared) c.in_default.not-Inside);
    }
