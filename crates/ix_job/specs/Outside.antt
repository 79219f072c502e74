-- A shelf and a sink at one moment, and how a line is printed.
use Rattle.std.specs.Prelude.{◌≡◌, ◌≤◌, ◌⊎◌, ℕ, Bool, true, false, List, Option, Result, Ok, Err}
use Rattle.std.specs.Prelude.{IsTrue}
use Rattle.ix_shelf.specs.Shelf.{Files, Counts, NoneFalls, Rose}
use Rattle.ix_shelf.specs.Sink.{with_bytes, PutsPrefix}
use Rattle.ix_report.specs.Lines.{line_of}
use Rattle.ix_report.specs.declared.report.Report as reports
use Rattle.ix_report.specs.declared.report.Report.TheVariants as a_report

-- what a shelf and a sink tell, and how often they have failed
pub record Outside : Type 0 where
  pub files : Option Files
  pub read_faults : Counts
  pub write_faults : Counts
  pub told : Option (List ℕ)
  pub put_faults : ℕ

abbrev pub outside : {S O : Type 0} → (S → Option Files) → (read_faults write_faults : S → Counts)
    → (O → Option (List ℕ)) → (O → ℕ) → S → O → Outside
outside files read_faults write_faults told put_faults shelf out = record {
  files = files shelf;
  read_faults = read_faults shelf;
  write_faults = write_faults shelf;
  told = told out;
  put_faults = put_faults out;
}

-- no count falls
pub record KeepsCounts (before after : Outside) : Type 0 where
  pub read : NoneFalls before.read_faults after.read_faults
  pub write : NoneFalls before.write_faults after.write_faults
  pub put : before.put_faults ≤ after.put_faults

-- The line was put and nothing else; only where the sink's count rose, a prefix of it.
abbrev pub PutsLine : List ℕ → (old new : Option (List ℕ)) → (before now : ℕ) → Type 0
PutsLine line old new before now =
    (new ≡ with_bytes line old) ⊎ (Rose before now × PutsPrefix line old new)

-- A report of a job that is done, or of a check that says no: it is an answer only where its whole
-- line was put.
abbrev pub is_done : reports.Report → Bool
is_done (a_report.Packed cells clusters) = true
is_done (a_report.Placed clusters length) = true
is_done (a_report.Routed nets pips rounds) = true
is_done (a_report.Implemented cells clusters nets pips trial rounds) = true
is_done (a_report.Yes derived) = true
is_done (a_report.No rule place) = true
is_done (a_report.Demo number luts flip_flops ports) = true
is_done report = false

-- A report of a job that is done and has written its outputs.
abbrev pub writes : reports.Report → Bool
writes (a_report.Packed cells clusters) = true
writes (a_report.Placed clusters length) = true
writes (a_report.Routed nets pips rounds) = true
writes (a_report.Implemented cells clusters nets pips trial rounds) = true
writes (a_report.Demo number luts flip_flops ports) = true
writes report = false

-- how a report was told
pub data Telling : Type 0 where
  -- its status stands
  stands : Telling
  -- a done job's line wasn't wholly put
  not_put : Telling

abbrev pub IsTold : reports.Report → (old new : Option (List ℕ)) → (before now : ℕ) → Telling
    → Type 0
IsTold report old new before now not_put =
    IsTrue (is_done report) × Rose before now × PutsPrefix (line_of report) old new
IsTold report old new before now stands =
    PutsLine (line_of report) old new before now
    × (IsTrue (is_done report) → new ≡ with_bytes (line_of report) old)

-- the same of a call that answers the report, or that its line wasn't wholly put
abbrev pub Tells : {E : Type 0} → reports.Report → (old new : Option (List ℕ)) → (before now : ℕ)
    → Result reports.Report E → Type 0
Tells report old new before now (Ok told) = (told ≡ report)
    × IsTold report old new before now stands
Tells report old new before now (Err failed) = IsTold report old new before now not_put
