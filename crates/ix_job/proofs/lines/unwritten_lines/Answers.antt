use Rattle.std.proofs.Common.{arith}
use Rattle.std.proofs.lemmas.List.{length-map}
use Rattle.ix_job.proofs.Setting.{text_at}
use Rattle.ix_job.proofs.FaultLines.{one_more_line, all_lines}
use Rattle.ix_job.proofs.lines.unwritten_lines.Goals as goal

pub loop-i-preserved : goal.loop-i-preserved
loop-i-preserved c = record {
  lines = one_more_line (λ line. line.report) _ _ _ _ c.loop-i.i _ c.in_ok-push.ensures.items
      (text_at (λ name. name.now) c.args.names.now c.loop-i.i _ c.loop-i-test.true)
      c.in_ok-unwritten_line.ensures c.loop-i.invariant.lines;
}

pub returns : goal.returns
returns c = all_lines _ _ c.loop-i.i (omega
    (arith, length-map c.args.names.now (λ name. name.now), c.loop-i-test.false))
    c.loop-i.invariant.lines
