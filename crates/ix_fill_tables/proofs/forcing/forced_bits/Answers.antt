use Rattle.std.proofs.Common.{◌≡◌, ◌≤◌, ◌^◌, arith, length, sym, subst}
use Rattle.ix_lut.specs.Shapes.{held_by, lut_on}
use Rattle.ix_lut.proofs.Bits.{values_fit}
use Rattle.ix_fill_tables.specs.Bits.{HasForced}
use Rattle.ix_fill_tables.proofs.Valued.{no_value, all_values, agrees_below}
use Rattle.ix_fill_tables.proofs.forcing.forced_bits.Goals as goal

pub loop-values-init : goal.loop-values-init
loop-values-init c =
    let on = lut_on c.args.bel.now c.args.used.now in
    let held = held_by c.args.ties.now in
    record {
      ones = subst (HasForced on c.args.table held 0 1) (sym c.none-forced.ensures.ones)
          (no_value on c.args.table held 1);
      zeros = subst (HasForced on c.args.table held 0 0) (sym c.none-forced.ensures.zeros)
          (no_value on c.args.table held 0);
    }

pub with_value-forced-requires-clause-values : goal.with_value-forced-requires-clause-values
with_value-forced-requires-clause-values c =
    let count = values_fit c.args.bel.now.inputs c.requires.bel.few in
    let below = c.loop-values-test.true in
    omega (arith, count, below)

pub loop-values-preserved : goal.loop-values-preserved
loop-values-preserved c = c.with_value-forced.ensures

pub returns : goal.returns
returns c =
    let long : length c.args.bel.now.lines ≡ 6 = omega arith in
    let on = lut_on c.args.bel.now c.args.used.now in
    let held = held_by c.args.ties.now in
    let count = values_fit c.args.bel.now.inputs c.requires.bel.few in
    let past = c.loop-values-test.false in
    let most = c.loop-values.auto in
    let end : 2 ^ c.args.bel.now.inputs ≤ c.loop-values.values = omega (arith, count, past) in
    all_values on c.args.table held c.loop-values.values c.loop-values.forced
    (λ v agrees. let below = agrees_below c.args.bel.now c.args.used.now held v long
    c.requires.bel.few agrees in omega (arith, below, end)) c.loop-values.invariant
