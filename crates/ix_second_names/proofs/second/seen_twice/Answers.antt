use Rattle.std.proofs.Common.{◌≡◌, ◌<◌, ◌∙◌, length, slice_get, Some, true, sym, ap, refl, arith}
use Rattle.std.proofs.lemmas.Bool.{false≢true}
use Rattle.std.proofs.lemmas.Option.{slice_get_read, get_or_from_slice_get}
use Rattle.ix_second_names.proofs.Turns.{seen_more}
use Rattle.ix_second_names.proofs.second.seen_twice.Goals as goal

pub loop-place-preserved : goal.loop-place-preserved
loop-place-preserved c =
    let is : slice_get c.args.names.now c.loop-place.place ≡ Some c.get-name.result =
    slice_get_read c.args.names.now (length c.args.names.now) c.loop-place.place
    c.index-names-place.result refl c.loop-place-test.true c.index-names-place.is
    ∙ ap Some (sym c.get-name.ensures) in
    let few : c.get-name.result < length c.args.marks.now =
    c.requires.inside c.loop-place.place c.get-name.result is in
    let many = c.loop-place.invariant.many in
    let f = c.if-marks-name.false in
    seen_more c.args.names.now c.loop-place.marks (length c.args.marks.now) c.loop-place.place
    c.get-name.result c.loop-place.invariant is (omega arith)
    (λ marked. false≢true (sym f ∙ get_or_from_slice_get c.loop-place.marks c.get-name.result true _
    marked))
