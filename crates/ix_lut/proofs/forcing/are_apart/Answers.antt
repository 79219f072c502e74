use Rattle.std.proofs.Common.{◌<◌, ◌^◌, bit_and, arith}
use Rattle.std.proofs.lemmas.Bool.{eqb-true, eqb-false}
use Rattle.std.proofs.lemmas.Nat.{and_le_l}
use Rattle.ix_lut.specs.Shapes.{held_by}
use Rattle.ix_lut.proofs.ForcedWords.{apart_when, not_apart_when}
use Rattle.ix_lut.proofs.forcing.are_apart.Goals as goal

pub returns : goal.returns
returns c =
    let f = c.forced_bits-forced.result in
    let fits : bit_and f.zeros f.ones < 2 ^ 64 = omega (arith, and_le_l f.zeros f.ones, c.forced_bits-forced.type_inv) in
    record {
      yes = λ e. apart_when c.args.luts.now (held_by c.args.held.now) f.zeros f.ones c.forced_bits-forced.ensures.zeros
          c.forced_bits-forced.ensures.ones (eqb-true (bit_and f.zeros f.ones) 0 e);
      no = λ e. not_apart_when c.args.luts.now (held_by c.args.held.now) f.zeros f.ones c.forced_bits-forced.ensures.zeros
          c.forced_bits-forced.ensures.ones (eqb-false (bit_and f.zeros f.ones) 0 e) fits;
    }
