use Rattle.std.proofs.Common.{◌≡◌, ◌∙◌, ap, sym, ℕ, arith}
use Rattle.std.specs.Int.{bit_at}
use Rattle.std.proofs.lemmas.Bool.{true≢false}
use Rattle.std.proofs.lemmas.Nat.Bits.{shr_and_one, bit_at-lt}
use Rattle.ix_lut.specs.Shapes.{lut_on, held_by}
use Rattle.ix_lut.specs.Tables.{spelled}
use Rattle.ix_fill_tables.proofs.Valued.{passed_value, new_value}
use Rattle.ix_fill_tables.proofs.forcing.with_value.Goals as goal

pub returns-then-not-agrees : goal.returns-then-not-agrees
returns-then-not-agrees c =
    let on = lut_on c.args.bel.now c.args.used.now in
    let held = held_by c.args.ties.now in
    record {
      ones = passed_value on c.args.table held c.args.values 1 c.args.forced.ones
          (λ agrees is. true≢false (sym (c.agrees.ensures.1 agrees) ∙ c.if-not-agrees.true))
          c.requires.forced.ones;
      zeros = passed_value on c.args.table held c.args.values 0 c.args.forced.zeros
          (λ agrees is. true≢false (sym (c.agrees.ensures.1 agrees) ∙ c.if-not-agrees.true))
          c.requires.forced.zeros;
    }

pub returns-then-table-spelled-eq1 : goal.returns-then-table-spelled-eq1
returns-then-table-spelled-eq1 c =
    let on = lut_on c.args.bel.now c.args.used.now in
    let held = held_by c.args.ties.now in
    let v : ℕ = c.args.values in
    let one : bit_at c.args.table (spelled c.args.used.now v) ≡ 1 =
    ap (bit_at c.args.table) (sym c.spelled.ensures.value)
    ∙ sym (shr_and_one c.args.table c.spelled.result) ∙ c.if-table-spelled-eq1.true in
    record {
      ones = new_value on c.args.table held v 1 c.args.forced.ones c.with_bit.result
          (c.agrees.ensures.0 c.if-not-agrees.false) one c.with_bit.ensures.here
          c.with_bit.ensures.others c.requires.forced.ones;
      zeros = passed_value on c.args.table held v 0 c.args.forced.zeros
          (λ agrees zero. omega (arith, zero, one)) c.requires.forced.zeros;
    }

pub returns-else-table-spelled-eq1 : goal.returns-else-table-spelled-eq1
returns-else-table-spelled-eq1 c =
    let on = lut_on c.args.bel.now c.args.used.now in
    let held = held_by c.args.ties.now in
    let v : ℕ = c.args.values in
    let same : bit_at c.args.table (spelled c.args.used.now v)
    ≡ bit_at c.args.table c.spelled.result =
    ap (bit_at c.args.table) (sym c.spelled.ensures.value) in
    let not_one = λ (e : bit_at c.args.table (spelled c.args.used.now v) ≡ 1).
    c.if-table-spelled-eq1.false (shr_and_one c.args.table c.spelled.result ∙ sym same ∙ e) in
    let small = bit_at-lt c.args.table (spelled c.args.used.now v) in
    let zero : bit_at c.args.table (spelled c.args.used.now v) ≡ 0 =
    omega (arith, small, not_one) in
    record {
      ones = passed_value on c.args.table held v 1 c.args.forced.ones
          (λ agrees is. not_one is) c.requires.forced.ones;
      zeros = new_value on c.args.table held v 0 c.args.forced.zeros
          c.with_bit-else-table-spelled-eq1.result
          (c.agrees.ensures.0 c.if-not-agrees.false) zero
          c.with_bit-else-table-spelled-eq1.ensures.here
          c.with_bit-else-table-spelled-eq1.ensures.others c.requires.forced.zeros;
    }
