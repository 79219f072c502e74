use Rattle.std.proofs.Common.{◌≡◌, ◌<◌, ◌∙◌, ap, sym, ℕ, length, arith}
use Rattle.ix_keys.specs.Keys.{key, key_eq}
use Rattle.ix_first.specs.First.{value_at, or_later}
use Rattle.ix_device.specs.declared.numbered.LutPlace.{LutPlace}
use Rattle.ix_device.proofs.NumberedLemmas.{there_is, one_more_element, all_elements}
use Rattle.ix_device.proofs.numbered.put_entry.Goals as goal

pub loop-k-preserved : goal.loop-k-preserved
loop-k-preserved c =
    let within : c.loop-k.k < length c.at-entry.result.now.luts = omega (arith, c.loop-k-test.true, c.len-k-end.ensures) in
    let at = there_is c.at-entry.result.now.luts c.loop-k.k within in
    let placed : LutPlace = record { entry = c.in_ok-number.number; lut = c.in_ok-lut.lut } in
    one_more_element c.args.entries.now c.args.i c.at-entry.result.now c.at-entry.ensures c.loop-k.k c.args.first c.in_ok-sum_of.field-0 placed at.0 c.loop-k.table c.put.new.self
    at.1 (c.requires.first c.at-entry.result.now c.at-entry.ensures) c.in_ok-number.ensures c.in_ok-lut.ensures c.in_ok-sum_of.ensures c.loop-k.invariant
    (λ ty q. c.in_ok-put.ensures.values (key ty q 0) ∙ ap (λ k. or_later (value_at c.loop-k.table (key ty q 0)) (key_eq k (key ty q 0)) placed) (c.new-key.ensures ∙ ap (λ s. key s c.in_ok-sum_of.field-0 0) c.get.ensures))

pub returns : goal.returns
returns c =
    all_elements c.args.entries.now c.args.i c.at-entry.result.now c.at-entry.ensures c.loop-k.k c.loop-k.table (let end : c.loop-k.k ≡ length c.at-entry.result.now.luts = omega (arith, c.loop-k-test.false, c.loop-k.auto.k-end, c.len-k-end.ensures) in end) c.loop-k.invariant
