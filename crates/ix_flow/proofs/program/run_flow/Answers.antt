use Rattle.ix_shelf.specs.declared.shelf.Failed.{Failed}
use Rattle.ix_flow.specs.WordsView.{flow_view}
use Rattle.ix_flow.proofs.Ending.{flow_complete}
use Rattle.ix_flow.proofs.program.run_flow.Goals as goal

pub returns-clause-complete : goal.returns-clause-complete
returns-clause-complete g c = flow_complete {E = Failed} (flow_view c.args.flow.now) _ _
    c.run_job.result c.ended.result c.ended.ensures c.run_job.ensures.complete
