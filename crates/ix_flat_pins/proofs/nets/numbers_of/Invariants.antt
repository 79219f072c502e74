use Rattle.std.proofs.Common.{◌≡◌, ◌<◌, ℕ, length, slice_get, Some}
use Rattle.ix_flat_pins.proofs.nets.numbers_of.Given as goal

abbrev pub invariant-loop-number : goal.invariant-loop-number
invariant-loop-number l = record {
  many : length l.numbers.items ≡ l.count;
  those : (n number : ℕ) → n < l.number → slice_get l.signals n ≡ Some number → slice_get l.numbers.items number ≡ Some n;
}
