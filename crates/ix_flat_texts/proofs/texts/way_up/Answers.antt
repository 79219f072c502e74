use Rattle.std.proofs.Common.{arith, sym, subst, ◌≡◌, ◌<◌, length, get_or, slice_get}
use Rattle.std.proofs.Common.{Some}
use Rattle.std.proofs.lemmas.Option.{slice_get-get_or}
use Rattle.ix_hierarchy.specs.declared.instance.Instance.{Instance}
use Rattle.ix_flat_texts.specs.Ways.{IsUp}
use Rattle.ix_flat_texts.proofs.Named.{up_next, zero_instance}
use Rattle.ix_flat_texts.proofs.texts.way_up.Goals as goal

pub loop-at-preserved : goal.loop-at-preserved
loop-at-preserved c =
    let all = c.args.instances.now in
    let one : Instance = get_or all c.loop-at.at zero_instance in
    let is : slice_get all c.loop-at.at ≡ Some one =
    slice_get-get_or all c.loop-at.at zero_instance c.loop-at.invariant.1 in
    let less : one.parent < c.loop-at.at =
    c.requires.parents c.loop-at.at one c.loop-at-test.true is in
    let bound : c.loop-at.at < length all = c.loop-at.invariant.1 in
    let more : one.parent < length all = omega arith in (
      subst (λ way. IsUp all c.args.instance way one.parent) (sym c.in_ok-push.ensures.items)
          (up_next all c.args.instance c.loop-at.way.items c.loop-at.at one c.loop-at.invariant.0
          c.loop-at-test.true is),
      more,
    )
