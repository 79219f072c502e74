use Rattle.std.proofs.Common.{◌≡◌, map, take}
use Rattle.ix_report.specs.declared.report.Report.TheVariants as a_report
use Rattle.ix_job.proofs.lines.unwritten_lines.Given as goal

abbrev pub invariant-loop-i : goal.invariant-loop-i
invariant-loop-i l = record {
  lines : map (λ line. line.report) l.lines.items ≡ map (λ name. a_report.WriteFault name)
      (take l.i (map (λ name. name.now) l.names));
}
