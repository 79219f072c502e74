use Rattle.std.proofs.Common.{◌∙◌, ap, sym, Option, Some, subst}
use Rattle.ix_job.specs.Outside.{outside}
use Rattle.ix_flow.specs.declared.words.Words.{Words}
use Rattle.ix_flow.specs.Words.{Asked, checking, flowing}
use Rattle.ix_flow.specs.WordsView.{asked_view, check_view, flow_view}
use Rattle.ix_flow.specs.Run.{IsRun, IsComplete}
use Rattle.ix_flow.proofs.Implementing.{run_implements, usage_not_done}
use Rattle.ix_flow.proofs.program.run.Goals as goal

pub returns-in-Some-Flow-clause-run : goal.returns-in-Some-Flow-clause-run
returns-in-Some-Flow-clause-run g c =
    let before = outside g.S.Shelf.files g.S.Shelf.read_faults g.S.Shelf.write_faults g.O.Sink.told
    g.O.Sink.faults c.args.shelf.now c.args.out.now in
    let after = outside g.S.Shelf.files g.S.Shelf.read_faults g.S.Shelf.write_faults g.O.Sink.told
    g.O.Sink.faults c.run_flow.new.shelf c.run_flow.new.out in
    let ran : IsRun (Some (flowing (flow_view c.in-Some-Flow.flow))) before after c.run_flow.result =
    c.run_flow.ensures.run in
    let asked = ap (λ (words : Words). Some (asked_view words)) (sym c.in-Some-Flow.field-0-is)
    ∙ c.in-Some-Flow.ensures in
    subst (λ (asked : Option Asked). IsRun asked before after c.run_flow.result) asked ran

pub returns-in-Some-Flow-clause-complete : goal.returns-in-Some-Flow-clause-complete
returns-in-Some-Flow-clause-complete g c =
    let before = outside g.S.Shelf.files g.S.Shelf.read_faults g.S.Shelf.write_faults g.O.Sink.told
    g.O.Sink.faults c.args.shelf.now c.args.out.now in
    let after = outside g.S.Shelf.files g.S.Shelf.read_faults g.S.Shelf.write_faults g.O.Sink.told
    g.O.Sink.faults c.run_flow.new.shelf c.run_flow.new.out in
    let ran : IsComplete (Some (flowing (flow_view c.in-Some-Flow.flow))) before after c.run_flow.result =
    c.run_flow.ensures.complete in
    let asked = ap (λ (words : Words). Some (asked_view words)) (sym c.in-Some-Flow.field-0-is)
    ∙ c.in-Some-Flow.ensures in
    subst (λ (asked : Option Asked). IsComplete asked before after c.run_flow.result) asked ran

pub returns-in-Some-Flow-clause-implements : goal.returns-in-Some-Flow-clause-implements
returns-in-Some-Flow-clause-implements g c =
    run_implements c.fits_are_legal.ensures.law _ _ _ _ (returns-in-Some-Flow-clause-run g c)

pub returns-in-Some-Check-clause-run : goal.returns-in-Some-Check-clause-run
returns-in-Some-Check-clause-run g c =
    let before = outside g.S.Shelf.files g.S.Shelf.read_faults g.S.Shelf.write_faults g.O.Sink.told
    g.O.Sink.faults c.args.shelf.now c.args.out.now in
    let after = outside g.S.Shelf.files g.S.Shelf.read_faults g.S.Shelf.write_faults g.O.Sink.told
    g.O.Sink.faults c.run_check.new.shelf c.run_check.new.out in
    let ran : IsRun (Some (checking (check_view c.in-Some-Check.check))) before after c.run_check.result =
    c.run_check.ensures.run in
    let asked = ap (λ (words : Words). Some (asked_view words)) (sym c.in-Some-Check.field-0-is)
    ∙ c.in-Some-Check.ensures in
    subst (λ (asked : Option Asked). IsRun asked before after c.run_check.result) asked ran

pub returns-in-Some-Check-clause-complete : goal.returns-in-Some-Check-clause-complete
returns-in-Some-Check-clause-complete g c =
    let before = outside g.S.Shelf.files g.S.Shelf.read_faults g.S.Shelf.write_faults g.O.Sink.told
    g.O.Sink.faults c.args.shelf.now c.args.out.now in
    let after = outside g.S.Shelf.files g.S.Shelf.read_faults g.S.Shelf.write_faults g.O.Sink.told
    g.O.Sink.faults c.run_check.new.shelf c.run_check.new.out in
    let ran : IsComplete (Some (checking (check_view c.in-Some-Check.check))) before after c.run_check.result =
    c.run_check.ensures.complete in
    let asked = ap (λ (words : Words). Some (asked_view words)) (sym c.in-Some-Check.field-0-is)
    ∙ c.in-Some-Check.ensures in
    subst (λ (asked : Option Asked). IsComplete asked before after c.run_check.result) asked ran

pub returns-in-Some-Check-clause-implements : goal.returns-in-Some-Check-clause-implements
returns-in-Some-Check-clause-implements g c =
    run_implements c.fits_are_legal.ensures.law _ _ _ _ (returns-in-Some-Check-clause-run g c)

pub returns-in-None-clause-implements : goal.returns-in-None-clause-implements
returns-in-None-clause-implements g c = λ h. absurd (usage_not_done h)
