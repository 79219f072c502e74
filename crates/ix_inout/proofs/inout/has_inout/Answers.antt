use Rattle.std.proofs.Common.{◌≡◌, refl, rules}
use Rattle.ix_rec.specs.declared.device.Direction.TheVariants.{Inout}
use Rattle.ix_inout.proofs.Leaves.{row_port, has_none, has_one}
use Rattle.ix_inout.proofs.inout.has_inout.Goals as goal

pub at-requires : goal.at-requires
at-requires c =
    let A = c.requires.leaf.2 in
    let P = c.pins-start.ensures c.requires.leaf.0 c.args.rec.now c.requires.leaf.1 A.is_joined
    A.path_is in
    row_port c.requires.leaf.0 c.args.rec.now c.args.joined.now c.args.instance c.requires.leaf.1
    c.pins-start.result.0 c.pins-start.result.1 c.loop-place.place c.at-port.result A P
    c.loop-place.auto.place c.loop-place-test.true c.at-port.ensures

pub returns-then-eq : goal.returns-then-eq
returns-then-eq c = λ known path A.
    let P = c.pins-start.ensures known c.args.rec.now path A.is_joined A.path_is in
    let e = c.eq.ensures in
    let h = c.if-eq.true in
    let inout : c.at.result.now.dir ≡ Inout = search rules in (
      λ t. has_one known c.args.rec.now c.args.joined.now c.args.instance path
          c.pins-start.result.0 c.pins-start.result.1 c.loop-place.place c.at-port.result
          c.at.result.now
          A P c.loop-place.auto.place c.loop-place-test.true c.at-port.ensures c.at.ensures inout,
      λ h. refl,
    )

pub returns : goal.returns
returns c = λ known path A.
    let P = c.pins-start.ensures known c.args.rec.now path A.is_joined A.path_is in (
      λ t. absurd cc,
      λ h. absurd (has_none known c.args.rec.now c.args.joined.now c.args.instance
          path c.pins-start.result.0 c.pins-start.result.1 c.loop-place.place P
          c.loop-place.invariant
          c.loop-place-test.false h),
    )
