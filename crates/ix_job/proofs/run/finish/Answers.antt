use Rattle.std.proofs.Common.{subst, inr}
use Rattle.ix_report.specs.declared.report.Report.{Report}
use Rattle.ix_job.specs.Outside.{Tells}
use Rattle.ix_job.proofs.FaultLines.{fault_told}
use Rattle.ix_job.proofs.run.finish.Goals as goal

pub returns-clause-finished : goal.returns-clause-finished
returns-clause-finished g c =
    let cut = c.in-Err.ensures.unwritten in
    inr record {
      place = c.in-Err.unwritten.place;
      cut = cut;
      told = subst (λ (x : Report). Tells x (g.O.Sink.told c.args.out.now)
          (g.O.Sink.told c.tell-in-Err.new.out) (g.O.Sink.faults c.args.out.now)
          (g.O.Sink.faults c.tell-in-Err.new.out) c.tell-in-Err.result)
          (fault_told _ _ c.in-Err.unwritten.place cut.name _ c.requires cut.which
          c.line_at.ensures) c.tell-in-Err.ensures.told;
    }
