use Rattle.std.proofs.Common.{◌≡◌, ℕ, ◌*◌, ◌%◌, ◌<◌, ◌≤◌, ◌^◌, slice_index, arith, sym, ap, rules, subst}
use Rattle.std.specs.Int.{bit_at}
use Rattle.std.proofs.Math.Pow.{pow_mono}
use Rattle.ix_lut.specs.Tables.{spelled}
use Rattle.ix_lut.proofs.Bits.{values_fit}
use Rattle.ix_lut.proofs.Spreading.{HasBits, has_bits_next, has_bits_fits}
use Rattle.ix_lut.proofs.Spelling.{spelled_below_64}
use Rattle.ix_lut.proofs.table.spread.Goals as goal

value_within : (inputs v : ℕ) → inputs ≤ 6 → v < 1 * 2 ^ inputs % 2 ^ 32 → v < 2 ^ inputs
value_within inputs v few h = omega (arith, h, values_fit inputs few)

pub bounds-spells-v : goal.bounds-spells-v
bounds-spells-v c =
    let below = value_within c.args.inputs c.loop-v.v c.requires.small c.loop-v-test.true in
    omega (arith, below, pow_mono c.requires.small)

pub overflow_shr-word : goal.overflow_shr-word
overflow_shr-word c =
    omega (
      arith,
      c.spellings-spells.ensures.spelled c.loop-v.v (value_within c.args.inputs c.loop-v.v c.requires.small c.loop-v-test.true),
      spelled_below_64 c.args.places.now c.loop-v.v c.requires.few,
    )

pub overflow_shl-word : goal.overflow_shl-word
overflow_shl-word c = omega (arith, c.loop-v-test.true, pow_mono c.requires.small)

pub overflow_add-word : goal.overflow_add-word
overflow_add-word c =
    let within : c.loop-v.v < 64 = omega (arith, c.loop-v-test.true, pow_mono c.requires.small) in
    let fits = has_bits_fits (λ v. bit_at c.args.bits (spelled c.args.places.now v)) c.loop-v.v c.loop-v.word
    c.args.bits (slice_index c.spellings-spells.result c.loop-v.v) within c.loop-v.invariant in
    search rules

pub loop-v-preserved : goal.loop-v-preserved
loop-v-preserved c =
    let within : c.loop-v.v < 64 = omega (arith, c.loop-v-test.true, pow_mono c.requires.small) in
    has_bits_next (λ v. bit_at c.args.bits (spelled c.args.places.now v)) c.loop-v.v c.loop-v.word
    c.args.bits (slice_index c.spellings-spells.result c.loop-v.v) within (sym (ap (bit_at c.args.bits)
    (c.spellings-spells.ensures.spelled c.loop-v.v (value_within c.args.inputs c.loop-v.v c.requires.small c.loop-v-test.true))))
    c.loop-v.invariant

pub returns : goal.returns
returns c =
    let e : c.loop-v.v ≡ 2 ^ c.args.inputs = omega (
      arith,
      c.loop-v-test.false,
      c.loop-v.auto.v-end,
      values_fit c.args.inputs c.requires.small,
    ) in
    let has = subst (λ n. HasBits (λ v. bit_at c.args.bits (spelled c.args.places.now v)) n c.loop-v.word) e c.loop-v.invariant in
    record { table = has.below; values = has.values }
