use Rattle.std.proofs.Common.{◌≡◌, length, arith}
use Rattle.ix_lut_places.proofs.Turns.{one_more_lut, whole_entry}
use Rattle.ix_lut_places.proofs.filling.put_entry.Goals as goal

pub loop-k-preserved : goal.loop-k-preserved
loop-k-preserved c =
    one_more_lut c.args.rec.now c.args.entry c.loop-k.k c.at.result.now c.args.row.now
    c.loop-k.row c.push.new.self
    (record { entry = c.in_ok-number.number; lut = c.in_ok-lut.lut }) c.at.ensures
    (omega (arith, c.loop-k-test.true, c.len-k-end.ensures)) c.in_ok-number.ensures
    c.in_ok-lut.ensures c.in_ok-push.ensures.ok c.loop-k.invariant

pub returns : goal.returns
returns c =
    let end : c.loop-k.k ≡ length c.at.result.now.luts =
    omega (arith, c.loop-k-test.false, c.loop-k.auto.k-end, c.len-k-end.ensures) in
    whole_entry c.args.rec.now c.args.entry c.loop-k.k c.at.result.now c.args.row.now
    c.loop-k.row c.at.ensures end c.loop-k.invariant
