use Rattle.std.proofs.Common.{◌≡◌}
use Rattle.ix_least_times.proofs.timed.time_lines.Given as goal

abbrev pub invariant-loop-line : goal.invariant-loop-line
invariant-loop-line g l = g.E.Edges.point_count l.edges ≡ l.search
