use Rattle.std.proofs.Common.{◌<◌, take, arith, ap, ◌∙◌, rules, ◌+◌, ◌*◌, ◌/◌, ◌%◌, ◌^◌, slice_index, bit_and}
use Rattle.std.proofs.lemmas.List.{take_all, length-take}
use Rattle.ix_lut.specs.Tables.{spelled}
use Rattle.ix_lut.proofs.Spelling.{spelled_next, spelled_small, spelled_below_64}
use Rattle.ix_lut.proofs.table.spelled_at.Goals as goal

pub overflow_add-n : goal.overflow_add-n
overflow_add-n c =
    let e = ap (λ n. n + bit_and (c.args.v / 2 ^ slice_index c.args.places.now c.loop-i.i) 1 * 2 ^ c.loop-i.i % 2 ^ 32) c.loop-i.invariant
    ∙ spelled_next c.args.places.now c.loop-i.i c.args.v c.loop-i-test.true c.requires.few in
    let small = spelled_below_64 (take (c.loop-i.i + 1) c.args.places.now) c.args.v
    (omega (arith, length-take (c.loop-i.i + 1) c.args.places.now)) in
    let fits : c.loop-i.n + bit_and (c.args.v / 2 ^ slice_index c.args.places.now c.loop-i.i) 1 * 2 ^ c.loop-i.i % 2 ^ 32 < 2 ^ 32 = omega (arith, e, small) in
    search rules

pub loop-i-preserved : goal.loop-i-preserved
loop-i-preserved c =
    ap (λ n. n + bit_and (c.args.v / 2 ^ slice_index c.args.places.now c.loop-i.i) 1 * 2 ^ c.loop-i.i % 2 ^ 32) c.loop-i.invariant
    ∙ spelled_next c.args.places.now c.loop-i.i c.args.v c.loop-i-test.true c.requires.few

pub returns-clause-small : goal.returns-clause-small
returns-clause-small c =
    let e = take_all c.loop-i.i c.args.places.now c.loop-i-test.false in
    omega (arith, c.loop-i.invariant ∙ ap (λ xs. spelled xs c.args.v) e, spelled_small c.args.places.now c.args.v)
