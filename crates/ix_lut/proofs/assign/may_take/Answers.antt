use Rattle.std.proofs.Common.{arith}
use Rattle.std.proofs.lemmas.Bool.{ltb-true, ltb-false}
use Rattle.std.proofs.lemmas.Nat.Bits.{shr_and_one, bit_at-lt}
use Rattle.ix_lut.proofs.assign.may_take.Goals as goal

pub returns : goal.returns
returns c =
    let m = shr_and_one c.args.mask c.args.line in
    let u = shr_and_one c.args.used c.args.line in
    record {
      of_mask = λ e. omega (arith, m, u, ltb-true _ _ e, bit_at-lt c.args.mask c.args.line);
      unused = λ e. omega (arith, m, u, ltb-true _ _ e, bit_at-lt c.args.mask c.args.line);
      no = λ e one zero. omega (arith, m, u, ltb-false _ _ e, one, zero);
    }
