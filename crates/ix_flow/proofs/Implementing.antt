-- What status 0 says, from a run of the job.
use Rattle.std.proofs.Common.{◌≡◌, ◌∙◌, refl, ap, sym, subst, inl, inr, ◌⊎◌, ℕ, zero, suc}
use Rattle.std.proofs.Common.{true, false, List, [], ◌∷◌, length, map, slice_get, Option}
use Rattle.std.proofs.Common.{Some, None, option_map, option_and_then, Result, Ok, Err}
use Rattle.ix_rec.specs.declared.device.DeviceRec.{DeviceRec}
use Rattle.ix_rec.specs.declared.phys.CellPlacement.{CellPlacement}
use Rattle.ix_rec.specs.declared.phys.Phys.{Phys}
use Rattle.ix_report.specs.declared.report.Report.{Report}
use Rattle.ix_report.specs.declared.report.Report.TheVariants as a_report
use Rattle.ix_message.specs.Shape.{Text}
use Rattle.ix_shelf.specs.Shelf.{Files}
use Rattle.ix_shelf.specs.declared.shelf.Failed.{Failed}
use Rattle.ix_rec.specs.declared.flow.Flat.{Flat}
use Rattle.ix_rec.specs.declared.flow.FlatCell.{FlatCell}
use Rattle.ix_hierarchy.specs.FlatDesign.{cell_texts}
use Rattle.std.specs.FinMap.{get, get-empty}
use Rattle.ix_rec.specs.Maps.{pin_order}
use Rattle.ix_message.specs.Message.{reading}
use Rattle.ix_message.specs.Phys.{phys_netlist}
use Rattle.ix_phys_write.specs.Record.{phys_record}
use Rattle.ix_flat.specs.Range.{IsInRange}
use Rattle.ix_flat.specs.Whole.{IsWhole}
use Rattle.ix_belmap.specs.declared.ports.Fixing.{Fixing}
use Rattle.ix_belmap.specs.Pins.{fixings, IsFixed}
use Rattle.ix_first_fit.specs.declared.cell.Spot.{Spot}
use Rattle.ix_first_fit.specs.Netlist.{IsPinMap}
use Rattle.ix_first_fit.specs.Laws.{IsOnPlace, HasOwnPlaces}
use Rattle.ix_job.specs.Outside.{Outside, is_done}
use Rattle.ix_job.specs.Job.{Content, Outcome, AreContents, with_files}
use Rattle.ix_job.specs.Job.{IsEnding, RunsJob}
use Rattle.ix_job.specs.Chain.{comes_to}
use Rattle.ix_flow.specs.declared.status.Status.{Status}
use Rattle.ix_flow.specs.declared.status.Status.TheVariants as stat
use Rattle.ix_flow.specs.Words.{Asked, Check, Flow, checking, flowing}
use Rattle.ix_flow.specs.CheckAnswer.{check_answer, IsCheckOutcome}
use Rattle.ix_flow.proofs.Checking.{accepts, check_refuses, is_of_done}
use Rattle.ix_flow.specs.Status.{status_of}
use Rattle.ix_flow.specs.Answer.{IsValid}
use Rattle.ix_flow.specs.Answer.{NamedDevice, NamedDesign, NamedFlat, NamedCells, IsFlatDesign}
use Rattle.ix_flow.specs.Answer.{IsUnconnected, IsPlaced, IsWritten, cells_in, answer}
use Rattle.ix_flow.specs.Answer.{IsFlowOutcome}
use Rattle.ix_flow.specs.Run.{job_for, job_of_check, IsRun, ended}
use Rattle.ix_flow.specs.Implements.{HasWholeMap, HaveWholeMaps, placed_texts, Implements}
use Rattle.ix_flow.specs.Implements.{KeepsDesign, HasAccepted, HasImplemented, IsImplemented}
use Rattle.ix_flow.proofs.Outputs.{answer_refuses}
use Rattle.ix_fit_legal.specs.Laws.{FitsAreLegal}
use Rattle.ix_flow.proofs.Unconnected.{NoPin, no_nets, no_tables, are_plain}

-- no report is of a fault at printing
no_put_fault : (report : Report) → status_of report ≡ stat.PutFault → ⊥
no_put_fault (a_report.Packed cells clusters) e = let bad : stat.Done ≡ stat.PutFault = e in cc
no_put_fault (a_report.Placed clusters length) e = let bad : stat.Done ≡ stat.PutFault = e in cc
no_put_fault (a_report.Routed nets pips rounds) e = let bad : stat.Done ≡ stat.PutFault = e in cc
no_put_fault (a_report.Implemented cells clusters nets pips trial rounds) e =
    let bad : stat.Done ≡ stat.PutFault = e in cc
no_put_fault (a_report.Yes derived) e = let bad : stat.Done ≡ stat.PutFault = e in cc
no_put_fault (a_report.No rule place) e = let bad : stat.No rule place ≡ stat.PutFault = e in cc
no_put_fault (a_report.Demo number luts flip_flops ports) e = let bad : stat.Done ≡ stat.PutFault =
    e in cc
no_put_fault a_report.Usage e = let bad : stat.Usage ≡ stat.PutFault = e in cc
no_put_fault (a_report.Bad file rule place) e = let bad : stat.Bad file rule place ≡ stat.PutFault =
    e in cc
no_put_fault (a_report.NotBuilt file) e = let bad : stat.NotBuilt file ≡ stat.PutFault = e in cc
no_put_fault a_report.TooLong e = let bad : stat.TooLong ≡ stat.PutFault = e in cc
no_put_fault (a_report.TooFewBels kind cells bels) e =
    let bad : stat.TooFewBels kind cells bels ≡ stat.PutFault = e in cc
no_put_fault (a_report.Unpackable cell) e = let bad : stat.Unpackable cell ≡ stat.PutFault = e in cc
no_put_fault (a_report.NoSite cell) e = let bad : stat.NoSite cell ≡ stat.PutFault = e in cc
no_put_fault (a_report.Unreachable net node) e =
    let bad : stat.Unreachable net node ≡ stat.PutFault = e in cc
no_put_fault (a_report.Congested node a b rounds trial) e =
    let bad : stat.Congested node a b rounds trial ≡ stat.PutFault = e in cc
no_put_fault (a_report.ReadFault file) e = let bad : stat.ReadFault file ≡ stat.PutFault = e in cc
no_put_fault (a_report.WriteFault file) e = let bad : stat.WriteFault file ≡ stat.PutFault = e in cc
no_put_fault a_report.OutOfMemory e = let bad : stat.OutOfMemory ≡ stat.PutFault = e in cc

-- a done report isn't a refusal
not_refused : (report : Report) → is_done report ≡ true → is_done report ≡ false → ⊥
not_refused report done refused = let bad : true ≡ false = sym done ∙ refused in cc

-- what holds of each cell with its place and its placement gives equal lists
same_maps : {A : Type 0} (f : CellPlacement → A) (g : FlatCell → A) (cells : List FlatCell)
    (places : List Spot) (ms : List CellPlacement) → length ms ≡ length cells
    → length places ≡ length cells
    → ((k : ℕ) (c : FlatCell) (p : Spot) (m : CellPlacement) → slice_get cells k ≡ Some c
    → slice_get places k ≡ Some p → slice_get ms k ≡ Some m → f m ≡ g c)
    → map f ms ≡ map g cells
same_maps f g [] places [] h l each = refl
same_maps f g [] places (m ∷ ms) h l each = let bad : suc (length ms) ≡ 0 = h in cc
same_maps f g (c ∷ cs) places [] h l each = let bad : 0 ≡ suc (length cs) = h in cc
same_maps f g (c ∷ cs) [] (m ∷ ms) h l each = let bad : 0 ≡ suc (length cs) = l in cc
same_maps f g (c ∷ cs) (p ∷ ps) (m ∷ ms) h l each =
    let head : f m ≡ g c = each 0 c p m refl refl refl in
    let rest : map f ms ≡ map g cs = same_maps f g cs ps ms (by_suc h) (by_suc l)
    (λ k d q n. each (suc k) d q n) in
    ap (λ x. x ∷ map f ms) head ∙ ap (λ xs. g c ∷ xs) rest
  where
    by_suc : {a b : ℕ} → suc a ≡ suc b → a ≡ b
    by_suc e = cc

-- what holds of each cell with its place and its placement holds of each placement with its place
each_placement : (P : CellPlacement → Spot → Type 0) (cells : List FlatCell) (places : List Spot)
    (ms : List CellPlacement) → length ms ≡ length cells
    → ((k : ℕ) (c : FlatCell) (p : Spot) (m : CellPlacement) → slice_get cells k ≡ Some c
    → slice_get places k ≡ Some p → slice_get ms k ≡ Some m → P m p)
    → (k : ℕ) (m : CellPlacement) (p : Spot) → slice_get ms k ≡ Some m → slice_get places k ≡ Some p
    → P m p
each_placement P [] places (n ∷ ms) h each k m p at_m at_p = let bad : suc (length ms) ≡ 0 = h in cc
each_placement P [] places [] h each k m p at_m at_p = let bad : None ≡ Some m = at_m in cc
each_placement P (c ∷ cs) places [] h each k m p at_m at_p = let bad : 0 ≡ suc (length cs) = h in cc
each_placement P (c ∷ cs) places (n ∷ ms) h each zero m p at_m at_p = each 0 c p m refl at_p at_m
each_placement P (c ∷ cs) [] (n ∷ ms) h each (suc k) m p at_m at_p = let bad : None ≡ Some p =
    at_p in cc
each_placement P (c ∷ cs) (q ∷ ps) (n ∷ ms) h each (suc k) m p at_m at_p =
    each_placement P cs ps ms (by_suc h) (λ j d r o. each (suc j) d r o) k m p at_m at_p
  where
    by_suc : {a b : ℕ} → suc a ≡ suc b → a ≡ b
    by_suc e = cc

-- each cell has the whole pin map of its place
have_whole_maps : (rec : DeviceRec) (cells : List FlatCell) (phys : Phys)
    (own : HasOwnPlaces rec cells phys) → HaveWholeMaps rec phys own.places
have_whole_maps rec cells phys own = record {
  count = own.places_count ∙ sym own.placements_count;
  each = each_placement (HasWholeMap rec) cells own.places phys.placements own.placements_count
      (λ k c p m a b e. has_whole_map rec c p m (own.each k c p m a b e));
}
  where
    has_whole_map : (rec : DeviceRec) (c : FlatCell) (p : Spot) (m : CellPlacement)
        → IsOnPlace rec c p m → HasWholeMap rec m p
    has_whole_map rec c p m on = record {
      site = on.site;
      bel = on.bel;
      pins = subst (λ (ty : ℕ). IsPinMap rec ty p m.bel m.pin_map) (sym on.ty) on.pins;
    }

same_texts : (rec : DeviceRec) (names : List Text) (c : FlatCell) (p : Spot) (m : CellPlacement)
    → IsOnPlace rec c p m → placed_texts names m ≡ cell_texts names c
same_texts rec names c p m on =
    ap (λ (n : ℕ). option_and_then (λ name. option_map (λ ty. (name, ty)) (slice_get names m.ty))
    (slice_get names n)) on.cell_name
    ∙ ap (λ (n : ℕ). option_and_then (λ name. option_map (λ ty. (name, ty)) (slice_get names n))
    (slice_get names c.name)) on.ty

has_cells : (rec : DeviceRec) (names : List Text) (cells : List FlatCell) (phys : Phys)
    → HasOwnPlaces rec cells phys
    → map (placed_texts names) phys.placements ≡ map (cell_texts names) cells
has_cells rec names cells phys own =
    same_maps (placed_texts names) (cell_texts names) cells own.places phys.placements
    own.placements_count own.places_count
    (λ k c p m a b e. same_texts rec names c p m (own.each k c p m a b e))

-- what is extracted is the flat design, where that is unconnected
keeps_design : (rec : DeviceRec) (names : List Text) (before flat : Flat) (all : List Fixing)
    (phys : Phys) → HasOwnPlaces rec flat.cells phys → IsUnconnected flat
    → IsFixed before all flat → IsInRange rec before → IsWhole names rec before
    → KeepsDesign names flat phys
keeps_design rec names before flat all phys own alone fixed range whole =
    let none : NoPin before =
    λ cell pin. ap (λ m. get m (cell, pin)) (sym fixed.pins ∙ alone.no_pin)
    ∙ get-empty pin_order (cell, pin) in record {
      e1 = has_cells rec names flat.cells phys own;
      e1_sites = alone.none_fixed;
      e2 = alone.no_pin;
      e2_nets = fixed.nets ∙ no_nets names rec before none whole;
      e3 = λ cell. ap (λ m. get m cell) fixed.tables
          ∙ no_tables names rec before none range.numbers whole cell;
    }

implements : (law : FitsAreLegal) → (device design : Content) (outcome : Outcome) → answer device design (Ok outcome)
    → (output : List ℕ) × (outcome.outputs ≡ output ∷ []) × Implements device design output
implements law device design outcome h =
    let d : NamedDevice = h.2.0 in
    let rest = h.2.2 in
    let read : NamedDesign = rest.2.0 in
    let c : NamedCells = rest.2.2.0 in
    let cells : cells_in d.rec read (Ok c) = rest.2.2.1 in
    let f : NamedFlat = cells.0 in
    let is_flat : IsFlatDesign d.rec read f = cells.1 in
    let flat : Flat = cells.2.0 in
    let fixed : IsFixed f.flat (fixings f.names d.rec read.rec) flat = cells.2.1 in
    let alone : IsUnconnected flat = cells.2.2.0 in
    let same : c ≡ record { names = f.names; cells = flat.cells } = cells.2.2.1 in
    let phys : Phys = rest.2.2.2.0 in
    let placed_c : IsPlaced d.rec c phys = rest.2.2.2.1 in
    let placed : IsPlaced d.rec (record { names = f.names; cells = flat.cells }) phys =
    subst (λ (x : NamedCells). IsPlaced d.rec x phys) same placed_c in
    let written : IsWritten c phys outcome = rest.2.2.2.2 in
    let decodes : reading phys_netlist written.bytes ≡ Ok (phys_record f.names phys) =
    written.decodes ∙ ap (λ (x : NamedCells). Ok (phys_record x.names phys)) same in
    let valid : IsValid h.0 d = h.2.1 in
    let none : NoPin f.flat = λ cell pin. ap (λ m. get m (cell, pin))
    (sym fixed.pins ∙ alone.no_pin) ∙ get-empty pin_order (cell, pin) in (
      written.bytes,
      written.outputs_are,
      record {
        device_segments = h.0;
        device_opens = h.1;
        on = d;
        valid = h.2.1;
        design_segments = rest.0;
        design_opens = rest.1;
        design_rec = read;
        design_read = rest.2.1;
        flattened = f;
        is_flat = is_flat;
        flat = flat;
        is_pinned = fixed;
        phys = phys;
        decodes = decodes;
        places = placed.own.places;
        whole_maps = have_whole_maps d.rec flat.cells phys placed.own;
        legal = law f.names d.rec flat.cells phys (are_plain f.names d.rec f.flat flat
            valid.valid none is_flat.whole fixed.cells is_flat.most_cells) is_flat.differ placed.named
            placed.fitted;
        e1_e3 = keeps_design d.rec f.names f.flat flat (fixings f.names d.rec read.rec) phys
            placed.own alone fixed is_flat.range is_flat.whole;
      },
    )

-- a run that ends done was answered, and not refused
from_outcome : (law : FitsAreLegal) → (flow : Flow) (before after : Outside) (device design : Content) (outcome : Outcome)
    → comes_to (answer device design) outcome → is_done outcome.report ≡ true
    → ((files : Files) → before.files ≡ Some files
    → AreContents files (flow.device ∷ flow.design ∷ []) (device ∷ design ∷ []))
    → after.files ≡ option_map (with_files (flow.routed ∷ []) outcome.outputs) before.files
    → HasImplemented flow before after
from_outcome law flow before after device design outcome (inl ok) done read written =
    let made = implements law device design outcome ok in
    record {
      device = device;
      design = design;
      output = made.0;
      read = read;
      written = subst (λ (outputs : List (List ℕ)). after.files ≡ option_map
          (with_files (flow.routed ∷ []) outputs) before.files) made.1 written;
      implements = made.2;
    }
from_outcome law flow before after device design outcome (inr refusal) done read written =
    absurd (not_refused outcome.report done
    (answer_refuses device design outcome.report refusal.0))

from_contents : (law : FitsAreLegal) → (flow : Flow) (before after : Outside) (contents : List Content) (outcome : Outcome)
    → IsFlowOutcome contents outcome → is_done outcome.report ≡ true
    → ((files : Files) → before.files ≡ Some files
    → AreContents files (flow.device ∷ flow.design ∷ []) contents)
    → after.files ≡ option_map (with_files (flow.routed ∷ []) outcome.outputs) before.files
    → HasImplemented flow before after
from_contents law flow before after [] outcome is done read written = absurd is
from_contents law flow before after (device ∷ []) outcome is done read written = absurd is
from_contents law flow before after (device ∷ design ∷ []) outcome is done read written =
    from_outcome law flow before after device design outcome is done read written
from_contents law flow before after (device ∷ design ∷ other ∷ more) outcome is done read written =
    absurd is

by_ending : (law : FitsAreLegal) → (flow : Flow) (before after : Outside) (report : Report)
    → IsEnding IsFlowOutcome (job_for flow) before after report → is_done report ≡ true
    → HasImplemented flow before after
by_ending law flow before after report (inl answered) done =
    from_contents law flow before after answered.has.contents answered.has.outcome answered.has.is
    (sym (ap is_done answered.report_is) ∙ done) answered.has.read answered.written
by_ending law flow before after report (inr (inl unread)) done =
    absurd (not_refused report done (ap is_done unread.report_is))
by_ending law flow before after report (inr (inr (inl unwritten))) done =
    absurd (not_refused report done (ap is_done unwritten.report_is))
by_ending law flow before after report (inr (inr (inr starved))) done =
    absurd (not_refused report done (ap is_done starved.report_is))

-- A run of `check` that ends with status 0 was answered, and the netlist accepted.
files_kept : (outputs : List (List ℕ)) (o : Option Files) → option_map (with_files [] outputs) o ≡ o
files_kept outputs None = refl
files_kept outputs (Some files) = refl

check_from_outcome : (check : Check) (before after : Outside) (device design physical : Content)
    (outcome : Outcome) → comes_to (check_answer check.level device design physical) outcome
    → status_of outcome.report ≡ stat.Done
    → ((files : Files) → before.files ≡ Some files → AreContents files
    (check.device ∷ check.design ∷ check.physical ∷ []) (device ∷ design ∷ physical ∷ []))
    → after.files ≡ option_map (with_files [] outcome.outputs) before.files
    → HasAccepted check before after
check_from_outcome check before after device design physical outcome (inl ok) done read written =
    record {
      device = device;
      design = design;
      physical = physical;
      read = read;
      kept = written ∙ files_kept outcome.outputs before.files;
      accepts = accepts check.level device design physical outcome ok;
    }
check_from_outcome check before after device design physical outcome (inr refusal) done read
    written =
    absurd (check_refuses check.level device design physical outcome.report refusal.0 done)

check_from_contents : (check : Check) (before after : Outside) (contents : List Content)
    (outcome : Outcome) → IsCheckOutcome check.level contents outcome
    → status_of outcome.report ≡ stat.Done
    → ((files : Files) → before.files ≡ Some files → AreContents files
    (check.device ∷ check.design ∷ check.physical ∷ []) contents)
    → after.files ≡ option_map (with_files [] outcome.outputs) before.files
    → HasAccepted check before after
check_from_contents check before after [] outcome is done read written = absurd is
check_from_contents check before after (a ∷ []) outcome is done read written = absurd is
check_from_contents check before after (a ∷ b ∷ []) outcome is done read written = absurd is
check_from_contents check before after (a ∷ b ∷ c ∷ []) outcome is done read written =
    check_from_outcome check before after a b c outcome is done read written
check_from_contents check before after (a ∷ b ∷ c ∷ d ∷ more) outcome is done read written =
    absurd is

check_by_ending : (check : Check) (before after : Outside) (report : Report)
    → IsEnding (IsCheckOutcome check.level) (job_of_check check) before after report
    → status_of report ≡ stat.Done → HasAccepted check before after
check_by_ending check before after report (inl answered) done =
    check_from_contents check before after answered.has.contents answered.has.outcome
    answered.has.is (sym (ap status_of answered.report_is) ∙ done) answered.has.read
    answered.written
check_by_ending check before after report (inr (inl unread)) done =
    absurd (not_refused report (is_of_done report done) (ap is_done unread.report_is))
check_by_ending check before after report (inr (inr (inl unwritten))) done =
    absurd (not_refused report (is_of_done report done) (ap is_done unwritten.report_is))
check_by_ending check before after report (inr (inr (inr starved))) done =
    absurd (not_refused report (is_of_done report done) (ap is_done starved.report_is))

put_not_done : stat.PutFault ≡ stat.Done → ⊥
put_not_done e = cc

check_by_answered : (check : Check) (before after : Outside) (answered : Result Report Failed)
    → RunsJob (IsCheckOutcome check.level) (job_of_check check) before after answered
    → ended answered ≡ stat.Done → HasAccepted check before after
check_by_answered check before after (Ok report) runs done =
    check_by_ending check before after report runs.ending done
check_by_answered check before after (Err failed) runs done = absurd (put_not_done done)

-- the status of a job that is done, whether or not its line was put
abbrev IsOfDone : Status → Type 0
IsOfDone status = (status ≡ stat.Done) ⊎ (status ≡ stat.PutFault)

done_report : (report : Report) → IsOfDone (status_of report) → is_done report ≡ true
done_report report (inl done) = is_of_done report done
done_report report (inr put) = absurd (no_put_fault report put)

by_answered : (law : FitsAreLegal) → (flow : Flow) (before after : Outside) (answered : Result Report Failed)
    → RunsJob IsFlowOutcome (job_for flow) before after answered → IsOfDone (ended answered)
    → HasImplemented flow before after
by_answered law flow before after (Ok report) runs done =
    by_ending law flow before after report runs.ending (done_report report done)
by_answered law flow before after (Err failed) runs done =
    by_ending law flow before after runs.0 runs.1.ending runs.1.told.0

pub run_implements : (law : FitsAreLegal) → (words : Option Asked) (before after : Outside)
    (status : Status) → IsRun words before after status → IsOfDone status
    → IsImplemented words before after status
run_implements law None before after status run (inl done) = let bad : stat.Usage ≡ stat.Done =
    sym run.usage ∙ done in cc
run_implements law None before after status run (inr put) = let bad : stat.Usage ≡ stat.PutFault =
    sym run.usage ∙ put in cc
run_implements law (Some (flowing flow)) before after status run done =
    by_answered law flow before after run.answered run.runs (subst IsOfDone run.status_is done)
run_implements law (Some (checking check)) before after status run (inl done) =
    subst (IsImplemented (Some (checking check)) before after) (sym done)
    (check_by_answered check before after run.answered run.runs (sym run.status_is ∙ done))
run_implements law (Some (checking check)) before after status run (inr put) =
    subst (IsImplemented (Some (checking check)) before after) (sym put) tt

pub usage_not_done : IsOfDone stat.Usage → ⊥
usage_not_done (inl done) = let bad : stat.Usage ≡ stat.Done = done in cc
usage_not_done (inr put) = let bad : stat.Usage ≡ stat.PutFault = put in cc
