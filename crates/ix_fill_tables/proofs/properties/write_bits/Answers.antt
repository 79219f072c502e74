use Rattle.std.proofs.Common.{subst, sym, ◌+◌, string_bytes}
use Rattle.ix_fill_tables.proofs.Digits.{AreDigits, next_digit}
use Rattle.ix_fill_tables.proofs.properties.write_bits.Goals as goal

pub loop-i-preserved : goal.loop-i-preserved
loop-i-preserved c = subst (AreDigits c.args.bits (c.loop-i.i + 1))
    (sym c.in_ok-write_digit.ensures)
    (next_digit c.args.bits c.loop-i.i (string_bytes c.loop-i.text) c.loop-i-test.true
    c.loop-i.invariant)
