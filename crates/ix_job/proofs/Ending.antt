-- From what the steps come to to how the run ends.
use Rattle.std.proofs.Common.{◌≡◌, refl, sym, ap, subst, ◌∙◌, ℕ, inl, inr, List, length, take}
use Rattle.std.proofs.Common.{Option, Some, option_map, slice_get, Result, Ok, Err}
use Rattle.std.proofs.lemmas.Option.{same_Some}
use Rattle.ix_shelf.specs.Shelf.{Files, Counts, Rose, LeavesPrefix}
use Rattle.ix_report.specs.declared.report.Report.{Report}
use Rattle.ix_report.specs.declared.report.Report.TheVariants as a_report
use Rattle.ix_job.specs.declared.run.Ready.{Ready}
use Rattle.ix_job.specs.Outside.{Outside, KeepsCounts, IsTold, Tells, stands}
use Rattle.ix_job.specs.Job.{Name, Job, Content, Outcome, AreContents, HasOutputs, HasOutcome}
use Rattle.ix_job.specs.Job.{with_files, IsEnding, RunsJob}
use Rattle.ix_job.specs.Steps.{IsUnreadAt, IsMadeOf, TellsEither, Finishes}

-- a run that ended, and told of it
pub runs : {E : Type 0} (is_outcome : List Content → Outcome → Type 0) (job : Job)
    (before after : Outside) (report : Report) (r : Result Report E)
    → IsEnding is_outcome job before after report → KeepsCounts before after
    → Tells report before.told after.told before.put_faults after.put_faults r
    → RunsJob is_outcome job before after r
runs is_outcome job before after report (Ok told) e k t = record {
  ending = subst (IsEnding is_outcome job before after) (sym t.0) e;
  told = subst (λ (x : Report). IsTold x before.told after.told before.put_faults after.put_faults
      stands) (sym t.0) t.1;
  counts = k;
}
runs is_outcome job before after report (Err failed) e k t =
    (report, record { ending = e; told = t; counts = k })

pub starved_run : {E : Type 0} (is_outcome : List Content → Outcome → Type 0) (job : Job)
    (before after : Outside) (r : Result Report E)
    → after.files ≡ before.files → after.write_faults ≡ before.write_faults
    → KeepsCounts before after
    → Tells a_report.OutOfMemory before.told after.told before.put_faults after.put_faults r
    → RunsJob is_outcome job before after r
starved_run is_outcome job before after r same write k t =
    runs is_outcome job before after a_report.OutOfMemory r
    (inr (inr (inr record { kept = same; untried = write; report_is = refl }))) k t

pub unread_run : {E : Type 0} (is_outcome : List Content → Outcome → Type 0) (job : Job)
    (before after : Outside) (place : ℕ) (name : Name) (r : Result Report E)
    → slice_get job.inputs place ≡ Some name
    → IsUnreadAt before.files before.read_faults after.read_faults job.inputs place
    → after.files ≡ before.files → after.write_faults ≡ before.write_faults
    → KeepsCounts before after
    → TellsEither (a_report.ReadFault name) a_report.OutOfMemory before.told after.told
    before.put_faults after.put_faults r
    → RunsJob is_outcome job before after r
unread_run is_outcome job before after place name r n u same write k (inl t) =
    runs is_outcome job before after (a_report.ReadFault name) r (inr (inl record {
      place = place;
      name = u.name;
      which = u.which;
      there = u.there;
      cause = u.cause;
      kept = same;
      untried = write;
      report_is = ap (λ (x : Name). a_report.ReadFault x) (same_Some name u.name (sym n ∙ u.which));
    })) k t
unread_run is_outcome job before after place name r n u same write k (inr t) =
    starved_run is_outcome job before after r same write k t

-- what was made has the outcome
abbrev has_outcome : (is_outcome : List Content → Outcome → Type 0) (job : Job)
    (told : Option Files) (contents : List Content) (r : Ready)
    → length contents ≡ length job.inputs
    → ((files : Files) → told ≡ Some files → AreContents files job.inputs contents)
    → IsMadeOf is_outcome contents (length job.outputs) job.outputs r
    → HasOutcome is_outcome job told
has_outcome is_outcome job told contents r count read made = record {
  contents = contents;
  outcome = record { report = r.done.report; outputs = r.outputs };
  count = count;
  read = read;
  is = subst (λ (x : Report). is_outcome contents record { report = x; outputs = r.outputs })
      (sym made.report)
      (subst (λ (x : List (List ℕ)). is_outcome contents record {
        report =
            made.outcome.report;
        outputs = x;
      }) (sym made.outputs_are) made.is);
  has_outputs = subst (λ (x : Report). HasOutputs (length job.outputs) record {
    report =
        x;
    outputs = r.outputs;
  }) (sym made.report)
      (subst (λ (x : List (List ℕ)). HasOutputs (length job.outputs) record {
        report =
            made.outcome.report;
        outputs = x;
      }) (sym made.outputs_are) made.has_outputs);
}

-- the outside once the inputs were read
abbrev pub once_read : Outside → (files : Option Files) (reads writes : Counts) → Outside
once_read before files reads writes = record {
  files = files;
  read_faults = reads;
  write_faults =
      writes;
  told = before.told;
  put_faults = before.put_faults;
}

pub finished_run : {E : Type 0} (is_outcome : List Content → Outcome → Type 0) (job : Job)
    (before after : Outside) (files : Option Files) (reads writes : Counts)
    (contents : List Content) (made : Ready) (r : Result Report E) → files ≡ before.files
    → writes ≡ before.write_faults
    → length contents ≡ length job.inputs
    → ((files : Files) → before.files ≡ Some files → AreContents files job.inputs contents)
    → IsMadeOf is_outcome contents (length job.outputs) job.outputs made
    → KeepsCounts before after → Finishes made job.outputs
    (once_read before files reads writes) after r → RunsJob is_outcome job before after r
finished_run is_outcome job before after files reads writes contents made r same write count read m
    k (inl whole) =
    runs is_outcome job before after made.done.report r (inl record {
      has = has_outcome is_outcome job before.files contents made count read m;
      written = whole.written ∙ ap (option_map (with_files job.outputs made.outputs)) same;
      untried = λ none. whole.untried none ∙ write;
      report_is = refl;
    }) k whole.told
finished_run is_outcome job before after files reads writes contents made r same write count read m
    k (inr cut) =
    let c = cut.cut in
    runs is_outcome job before after (a_report.WriteFault c.name) r (inr (inr (inl record {
      has = has_outcome is_outcome job before.files contents made count read m;
      place = cut.place;
      name = c.name;
      bytes = c.bytes;
      which = c.which;
      bytes_are = c.bytes_are;
      cause = subst (λ (counts : Counts). Rose (counts c.name) (after.write_faults c.name)) write
          c.cause;
      left = subst (λ (o : Option Files). LeavesPrefix c.name c.bytes
          (option_map (with_files (take cut.place job.outputs) (take cut.place made.outputs)) o)
          after.files) same c.left;
      report_is = refl;
    }))) k cut.told
