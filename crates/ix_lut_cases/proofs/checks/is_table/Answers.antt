use Rattle.std.proofs.Common.{◌≡◌, ℕ, ◌*◌, ◌/◌, ◌%◌, ◌-◌, ◌<◌, ◌≤◌, ◌^◌, arith, ◌∙◌, ap, rules}
use Rattle.std.proofs.Math.Pow.{pow_mono, pow_pos}
use Rattle.std.proofs.lemmas.Nat.Bits.{ones_shr}
use Rattle.ix_lut.proofs.Bits.{values_fit}
use Rattle.ix_lut_cases.proofs.checks.is_table.Goals as goal

room : (n : ℕ) → n ≤ 6 → 2 ^ n ≤ 64
room n few = pow_mono few

-- the greatest table of `n` inputs
most_is : (n : ℕ) → n ≤ 6 → 18446744073709551615 / 2 ^ (64 - 1 * 2 ^ n % 4294967296) ≡ 2 ^ (2 ^ n) - 1
most_is n few =
    rw (values_fit n few) (ones_shr 64 (64 - 2 ^ n) (omega arith)
    ∙ ap (λ k. 2 ^ k - 1) (omega (arith, room n few)))

pub overflow_sub-most : goal.overflow_sub-most
overflow_sub-most c =
    let few : c.args.table.now.inputs ≤ 6 = omega arith in
    rw (values_fit c.args.table.now.inputs few) (room c.args.table.now.inputs few)

below : (bits most n : ℕ) → bits ≤ most → most ≡ 2 ^ (2 ^ n) - 1 → bits < 2 ^ (2 ^ n)
below bits most n le is =
    let some : 0 < 2 ^ (2 ^ n) = pow_pos (2 ^ n) in
    omega (arith, le, is, some)

pub returns-clause-table : goal.returns-clause-table
returns-clause-table c small =
    let few : c.args.table.now.inputs ≤ 6 = omega arith in
    below c.args.table.now.bits _ c.args.table.now.inputs (search rules) (most_is c.args.table.now.inputs few)
