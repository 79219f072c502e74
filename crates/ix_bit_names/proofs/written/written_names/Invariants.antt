use Rattle.std.proofs.Common.{◌≡◌, length}
use Rattle.ix_bit_names.specs.Bits.{AreNames, AreNumbers, Grows}
use Rattle.ix_bit_names.proofs.written.written_names.Given as goal

abbrev pub invariant-loop-place : goal.invariant-loop-place
invariant-loop-place l = record {
  many : length l.written.items ≡ l.place;
  each : AreNames l.names l.rec l.rows.rows l.written.items;
  table : AreNumbers l.names l.rec l.table;
  grows : Grows l.initial.names l.names l.initial.left l.left;
}
