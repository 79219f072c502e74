use Rattle.std.proofs.Common.{◌≡◌, ◌+◌, length}
use Rattle.ix_belmap_cases.proofs.Walked.{bits_of, first_ports}
use Rattle.ix_belmap_cases.proofs.checks.has_bits.Given as goal

abbrev pub invariant-loop-i : goal.invariant-loop-i
invariant-loop-i l = length (bits_of (first_ports l.design l.top l.i)) + l.left ≡ l.count
