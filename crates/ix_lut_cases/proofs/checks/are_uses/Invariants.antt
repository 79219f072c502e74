use Rattle.std.proofs.Common.{ℕ, ◌<◌, ◌≤◌}
use Rattle.ix_lut.specs.Items.{use_at}
use Rattle.ix_lut.specs.Tables.{IsTable}
use Rattle.ix_lut_cases.proofs.checks.are_uses.Given as goal

abbrev pub invariant-loop-u : goal.invariant-loop-u
invariant-loop-u l = record {
  below : (k : ℕ) → k < l.u → (use_at l.uses k).bel < l.least;
  on_bels : (k : ℕ) → k < l.u → (use_at l.uses k).bel < l.shape.bel_count;
  in_order : (k m : ℕ) → k < m → m < l.u → (use_at l.uses k).bel < (use_at l.uses m).bel;
  some : (k : ℕ) → k < l.u → 1 ≤ (use_at l.uses k).table.inputs;
  few : (k : ℕ) → k < l.u → (use_at l.uses k).table.inputs ≤ 6;
  tables : (k : ℕ) → k < l.u → IsTable (use_at l.uses k).table.inputs (use_at l.uses k).table.bits;
}
