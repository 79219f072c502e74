use Rattle.std.proofs.Common.{◌<◌, ◌^◌, arith}
use Rattle.ix_named_there.proofs.Turns.{few_digits}
use Rattle.ix_named_there.proofs.bits.table_bits_of.Goals as goal

pub overflow_mul-bits : goal.overflow_mul-bits
overflow_mul-bits c =
    let few : c.loop-i.bits < 2 ^ 60 = few_digits c.loop-i.bits c.loop-i.i c.loop-i.invariant.1
    (omega arith) in
    omega (arith, few)

pub overflow_add-bits : goal.overflow_add-bits
overflow_add-bits c =
    let few : c.loop-i.bits < 2 ^ 60 = few_digits c.loop-i.bits c.loop-i.i c.loop-i.invariant.1
    (omega arith) in
    omega (arith, few, c.in_ok-digit.ensures.below)
