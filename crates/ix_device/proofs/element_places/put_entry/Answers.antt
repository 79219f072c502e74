use Rattle.std.proofs.Common.{◌≡◌, length, arith}
use Rattle.ix_device.proofs.PlaceLemmas.{one_more_lut, whole_entry}
use Rattle.ix_device.proofs.element_places.put_entry.Goals as goal

pub loop-k-preserved : goal.loop-k-preserved
loop-k-preserved c =
    one_more_lut c.args.entries.now c.args.i c.at-entry.result.now c.at-entry.ensures c.loop-k.k c.args.first c.in_ok-number.number c.in_ok-lut.lut c.in_ok-sum_of.field-0 c.at.result.now c.loop-k.table _
    c.at.ensures (c.requires.first c.at-entry.result.now c.at-entry.ensures) c.in_ok-number.ensures c.in_ok-lut.ensures c.in_ok-sum_of.ensures c.loop-k.invariant c.in_ok-put_bels.ensures

pub returns : goal.returns
returns c =
    whole_entry c.args.entries.now c.args.i c.at-entry.result.now c.at-entry.ensures c.loop-k.k c.loop-k.table (let end : c.loop-k.k ≡ length c.at-entry.result.now.luts = omega (arith, c.loop-k-test.false, c.loop-k.auto.k-end, c.len-k-end.ensures) in end) c.loop-k.invariant
