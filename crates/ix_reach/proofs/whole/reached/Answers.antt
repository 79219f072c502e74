use Rattle.std.proofs.Common.{sym, ◌∙◌}
use Rattle.ix_reach.specs.State.{state_of}
use Rattle.ix_reach.proofs.Ending.{are_closed, first_breaks, none_breaks}
use Rattle.ix_reach.proofs.Reading.{are_met, design_fits, first_cells, none_looped}
use Rattle.ix_reach.proofs.whole.reached.Goals as goal

pub search_down-requires-clause-fits : goal.search_down-requires-clause-fits
search_down-requires-clause-fits c = design_fits c.args.rec.now c.requires

pub first_with_two-requires-clause-fits : goal.first_with_two-requires-clause-fits
first_with_two-requires-clause-fits c = (design_fits c.args.rec.now c.requires).cells

pub first_with_two-requires-clause-many : goal.first_with_two-requires-clause-many
first_with_two-requires-clause-many c = c.in_ok-count.ensures ∙ c.len.ensures

pub returns-in-Some-clause-broken : goal.returns-in-Some-clause-broken
returns-in-Some-clause-broken c =
    first_breaks c.args.rec.now (state_of c.in_ok-found.found) c.in_ok-found.ensures
    (design_fits c.args.rec.now c.requires).top c.first_with_two.result c.first_with_two.ensures
    c.in-Some.declaration (sym c.first_of.ensures ∙ c.in-Some.is)

pub returns-in-None-clause-keeps : goal.returns-in-None-clause-keeps
returns-in-None-clause-keeps c =
    none_breaks c.args.rec.now (state_of c.in_ok-found.found) c.in_ok-found.ensures
    (design_fits c.args.rec.now c.requires).top c.first_with_two.result c.first_with_two.ensures
    (sym c.first_of.ensures ∙ c.in-None.is)

pub returns-in-None-clause-cells : goal.returns-in-None-clause-cells
returns-in-None-clause-cells c =
    first_cells c.args.rec.now c.in_ok-cells.cells.first.items c.in_ok-cells.cells.next.items
    c.in_ok-cells.ensures

pub returns-in-None-clause-met : goal.returns-in-None-clause-met
returns-in-None-clause-met c =
    are_met c.args.rec.now (state_of c.in_ok-found.found) c.in_ok-found.ensures
    (design_fits c.args.rec.now c.requires).top
    (none_looped c.in_ok-found.found.looped c.first_with_two.result
    (sym c.first_of.ensures ∙ c.in-None.is))
    (none_breaks c.args.rec.now (state_of c.in_ok-found.found) c.in_ok-found.ensures
    (design_fits c.args.rec.now c.requires).top c.first_with_two.result c.first_with_two.ensures
    (sym c.first_of.ensures ∙ c.in-None.is))

pub returns-in-None-clause-closed : goal.returns-in-None-clause-closed
returns-in-None-clause-closed c =
    are_closed c.args.rec.now (state_of c.in_ok-found.found) c.in_ok-found.ensures
    (design_fits c.args.rec.now c.requires).top
    (none_looped c.in_ok-found.found.looped c.first_with_two.result
    (sym c.first_of.ensures ∙ c.in-None.is))
