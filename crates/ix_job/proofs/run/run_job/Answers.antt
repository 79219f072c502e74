use Rattle.std.proofs.Common.{◌≡◌, ◌∙◌, sym, subst, map, length, rules, arith, Err}
use Rattle.std.proofs.lemmas.List.{length-map}
use Rattle.std.proofs.lemmas.Option.{slice_get_within}
use Rattle.ix_job.specs.Views.{content_seen}
use Rattle.ix_job.specs.Steps.{AreRead, IsMadeOf}
use Rattle.ix_job.proofs.Setting.{text_at, same_counts, still_counts, falls_later}
use Rattle.ix_job.proofs.Ending.{unread_run, starved_run, finished_run}
use Rattle.ix_job.proofs.Complete.{completes}
use Rattle.ix_job.proofs.run.run_job.Goals as goal

pub returns-in-Err-Fault-clause-run : goal.returns-in-Err-Fault-clause-run
returns-in-Err-Fault-clause-run g c =
    let names = map (λ name. name.now) c.args.inputs.now in
    let unread = subst (λ e. AreRead (g.S.Shelf.files c.args.shelf.now)
    (g.S.Shelf.read_faults c.args.shelf.now)
    (g.S.Shelf.read_faults c.read_inputs.new.shelf) names (Err e))
    c.in-Err-Fault.field-0-is c.in-Err-Fault.ensures.read in
    unread_run _ _ _ _ c.in-Err-Fault.place _ c.tell_unread.result
    (text_at (λ name. name.now) c.args.inputs.now c.in-Err-Fault.place _
    (omega (
      arith,
      slice_get_within names c.in-Err-Fault.place unread.name unread.which,
      length-map c.args.inputs.now (λ name. name.now),
    )))
    unread (search rules) (search rules)
    record {
      read = c.read_inputs.ensures.read_faults;
      write =
          same_counts _ _ c.read_inputs.ensures.write_faults;
      put =
          c.tell_unread.ensures.faults;
    } c.tell_unread.ensures.told

pub returns-in-Err-Memory-clause-run : goal.returns-in-Err-Memory-clause-run
returns-in-Err-Memory-clause-run g c =
    starved_run _ _ _ _ c.starve.result (search rules) (search rules)
    record {
      read = c.read_inputs.ensures.read_faults;
      write =
          same_counts _ _ c.read_inputs.ensures.write_faults;
      put =
          c.starve.ensures.faults;
    } c.starve.ensures.told

pub returns-in-Ok-prepare-clause-run : goal.returns-in-Ok-prepare-clause-run
returns-in-Ok-prepare-clause-run g c =
    let names = map (λ name. name.now) c.args.outputs.now in
    let as_many : g.W.Work.outputs_count c.args.work.now ≡ length names =
    sym c.requires.outputs ∙ sym (length-map c.args.outputs.now (λ name. name.now)) in
    finished_run _ _ _ _ _ _ _ (map content_seen c.in-Ok.contents) c.in-Ok-prepare.ready
    c.finish.result (search rules) (search rules)
    (length-map c.in-Ok.contents content_seen ∙ c.in-Ok.ensures.count
    ∙ sym (length-map c.args.inputs.now (λ name. name.now)))
    c.in-Ok.ensures.read
    (subst (λ count. IsMadeOf (g.W.Work.is_outcome c.args.work.now)
    (map content_seen c.in-Ok.contents) count names c.in-Ok-prepare.ready) as_many
    c.in-Ok-prepare.ensures)
    record {
      read = still_counts _ _ _ c.read_inputs.ensures.read_faults c.finish.ensures.read_faults;
      write = falls_later _ _ _ c.read_inputs.ensures.write_faults c.finish.ensures.write_faults;
      put = c.finish.ensures.put_faults;
    } c.finish.ensures.finished

pub returns-clause-run : goal.returns-clause-run
returns-clause-run g c =
    starved_run _ _ _ _ c.starve-in-Err.result (search rules) (search rules)
    record {
      read = c.read_inputs.ensures.read_faults;
      write =
          same_counts _ _ c.read_inputs.ensures.write_faults;
      put =
          c.starve-in-Err.ensures.faults;
    } c.starve-in-Err.ensures.told

pub returns-in-Err-Fault-clause-complete : goal.returns-in-Err-Fault-clause-complete
returns-in-Err-Fault-clause-complete g c = completes _ _ _ _ _ (returns-in-Err-Fault-clause-run g c)

pub returns-in-Err-Memory-clause-complete : goal.returns-in-Err-Memory-clause-complete
returns-in-Err-Memory-clause-complete g c =
    completes _ _ _ _ _ (returns-in-Err-Memory-clause-run g c)

pub returns-in-Ok-prepare-clause-complete : goal.returns-in-Ok-prepare-clause-complete
returns-in-Ok-prepare-clause-complete g c =
    completes _ _ _ _ _ (returns-in-Ok-prepare-clause-run g c)

pub returns-clause-complete : goal.returns-clause-complete
returns-clause-complete g c = completes _ _ _ _ _ (returns-clause-run g c)
