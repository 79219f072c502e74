use Rattle.ix_shelf.specs.declared.shelf.Failed.{Failed}
use Rattle.ix_flow.specs.WordsView.{check_view}
use Rattle.ix_flow.proofs.Ending.{check_complete}
use Rattle.ix_flow.proofs.program.run_check.Goals as goal

pub returns-clause-complete : goal.returns-clause-complete
returns-clause-complete g c = check_complete {E = Failed} (check_view c.args.check.now) _ _
    c.run_job.result c.ended.result c.ended.ensures c.run_job.ensures.complete
