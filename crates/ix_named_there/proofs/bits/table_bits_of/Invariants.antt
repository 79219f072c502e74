use Rattle.std.proofs.Common.{◌≡◌, ◌<◌, ◌^◌, drop}
use Rattle.ix_legal.specs.TableKeys.{with_digits}
use Rattle.ix_named_there.proofs.bits.table_bits_of.Given as goal

abbrev pub invariant-loop-i : goal.invariant-loop-i
invariant-loop-i l = (with_digits l.bits (drop l.i l.digits) ≡ with_digits 0 l.digits)
    × (l.bits < 16 ^ l.i)
