use Rattle.std.proofs.Common.{subst}
use Rattle.ix_first_fit.specs.Answers.{IsFitFault}
use Rattle.ix_flow.proofs.Answering.{stuck_named, no_site_told}
use Rattle.ix_flow.proofs.answer.unplaced.Goals as goal

pub returns-in_ok-word_of-in-NoSite : goal.returns-in_ok-word_of-in-NoSite
returns-in_ok-word_of-in-NoSite c rec h =
    let stuck = subst (IsFitFault rec c.args.cells.now) c.in-NoSite.is h in
    no_site_told rec c.args.names.now c.args.cells.now c.in-NoSite.cell
    c.in_ok-word_of-in-NoSite.field-0 stuck
    (stuck_named c.args.names.now rec c.args.cells.now c.in-NoSite.cell c.at.result.now
    c.in_ok-word_of-in-NoSite.field-0 stuck c.at.ensures c.in_ok-word_of-in-NoSite.ensures)
