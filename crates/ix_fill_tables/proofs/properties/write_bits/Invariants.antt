use Rattle.std.proofs.Common.{string_bytes}
use Rattle.ix_fill_tables.proofs.Digits.{AreDigits}
use Rattle.ix_fill_tables.proofs.properties.write_bits.Given as goal

abbrev pub invariant-loop-i : goal.invariant-loop-i
invariant-loop-i l = AreDigits l.bits l.i (string_bytes l.text)
