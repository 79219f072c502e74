-- An answer has one output, and a refusal none.
use Rattle.std.proofs.Common.{◌≡◌, ◌∙◌, refl, ap, sym, subst, inl, inr, [], length}
use Rattle.std.proofs.Common.{Result, Ok, Err, Bool, true, false, IfOk}
use Rattle.std.specs.Prelude.{if◌then◌else◌}
use Rattle.ix_rec.specs.declared.device.DeviceRec.{DeviceRec}
use Rattle.ix_rec.specs.declared.phys.Phys.{Phys}
use Rattle.ix_rec.specs.declared.place.File.{File}
use Rattle.ix_rec.specs.declared.place.File.TheVariants.{Device, Design}
use Rattle.ix_report.specs.declared.report.Report.{Report}
use Rattle.ix_frame.specs.Segments.{Segments}
use Rattle.ix_job.specs.declared.stop.Stop.{Stop}
use Rattle.ix_job.specs.declared.stop.Stop.TheVariants.{Refused}
use Rattle.ix_job.specs.declared.work.Outcome as made
use Rattle.ix_job.specs.Views.{outcome_seen}
use Rattle.ix_report.specs.declared.report.Report.TheVariants as a_report
use Rattle.ix_job.specs.Outside.{writes, is_done}
use Rattle.ix_job.specs.Chain.{Step, and_then, Meets}
use Rattle.ix_job.specs.Job.{Content, Outcome, HasOutputs}
use Rattle.std.proofs.Common.{List}
use Rattle.ix_message.specs.Shape.{Text}
use Rattle.ix_rec.specs.declared.flow.Flat.{Flat}
use Rattle.ix_flow.specs.Answer.{NamedDevice, NamedDesign, NamedFlat, NamedCells, opens, device_in}
use Rattle.ix_flow.specs.Answer.{design_in, flattened, pinned, unconnected, cells_in, placed}
use Rattle.ix_flow.specs.Answer.{written, netlist_for, answer_for, answer}

abbrev pub IsRefusal : Report → Type 0
IsRefusal report = is_done report ≡ false

-- a report that isn't of a done job is of none that has written its outputs
not_written : (report : Report) → is_done report ≡ false → writes report ≡ false
not_written (a_report.Packed cells clusters) h = let bad : true ≡ false = h in cc
not_written (a_report.Placed clusters length) h = let bad : true ≡ false = h in cc
not_written (a_report.Routed nets pips rounds) h = let bad : true ≡ false = h in cc
not_written (a_report.Implemented cells clusters nets pips trial rounds) h =
    let bad : true ≡ false = h in cc
not_written (a_report.Demo number luts flip_flops ports) h = let bad : true ≡ false = h in cc
not_written (a_report.Yes derived) h = refl
not_written (a_report.No rule place) h = refl
not_written a_report.Usage h = refl
not_written (a_report.Bad file rule place) h = refl
not_written (a_report.NotBuilt file) h = refl
not_written a_report.TooLong h = refl
not_written (a_report.TooFewBels kind cells bels) h = refl
not_written (a_report.Unpackable cell) h = refl
not_written (a_report.NoSite cell) h = refl
not_written (a_report.Unreachable net node) h = refl
not_written (a_report.Congested node a b rounds trial) h = refl
not_written (a_report.ReadFault file) h = refl
not_written (a_report.WriteFault file) h = refl
not_written a_report.OutOfMemory h = refl

abbrev HasOne : Outcome → Type 0
HasOne outcome = HasOutputs 1 outcome

-- what holds after each second step
pub goes_on_to : {A B : Type 0} (P : B → Type 0) (step : Step A) (next : A → Step B) (b : B)
    → ((a : A) → next a (Ok b) → P b) → and_then step next (Ok b) → P b
goes_on_to P step next b f h = f h.0 h.2

-- a refusal by the first step, or by the second
refuses : {A B : Type 0} (step : Step A) (next : A → Step B) (report : Report)
    → (step (Err report) → IsRefusal report) → ((a : A) → next a (Err report) → IsRefusal report)
    → and_then step next (Err report) → IsRefusal report
refuses step next report f g (inl h) = f h
refuses step next report f g (inr h) = g h.0 h.2

pub opens_refuses : (file : File) (content : Content) (report : Report)
    → opens file content (Err report) → IsRefusal report
opens_refuses file content report h = ap is_done h.2

pub device_refuses : (all : Segments) (report : Report) → device_in all (Err report) → IsRefusal report
device_refuses all report h = ap is_done h.3

pub design_refuses : (d : NamedDevice) (all : Segments) (report : Report) → design_in d all (Err report)
    → IsRefusal report
design_refuses d all report h = ap is_done h.3

pub flattened_refuses : (rec : DeviceRec) (design : NamedDesign) (report : Report)
    → flattened rec design (Err report) → IsRefusal report
flattened_refuses rec design report h = ap is_done h.3

pub pinned_refuses : (rec : DeviceRec) (design : NamedDesign) (f : NamedFlat) (report : Report)
    → pinned rec design f (Err report) → IsRefusal report
pinned_refuses rec design f report h = ap is_done h.3

unconnected_refuses : (names : List Text) (flat : Flat) (report : Report)
    → unconnected names flat (Err report) → IsRefusal report
unconnected_refuses names flat report h = ap is_done h.1

cells_refuse : (rec : DeviceRec) (design : NamedDesign) (report : Report)
    → cells_in rec design (Err report) → IsRefusal report
cells_refuse rec design report h =
    refuses (flattened rec design)
    (λ f. and_then (pinned rec design f) (λ flat. unconnected f.names flat)) report
    (flattened_refuses rec design report)
    (λ f k. refuses (pinned rec design f) (λ flat. unconnected f.names flat) report
    (pinned_refuses rec design f report) (λ flat. unconnected_refuses f.names flat report) k) h

placed_refuses : (rec : DeviceRec) (c : NamedCells) (report : Report) → placed rec c (Err report)
    → IsRefusal report
placed_refuses rec c report (inl h) = ap is_done h.report_is
placed_refuses rec c report (inr h) = ap is_done h.report_is

written_refuses : (c : NamedCells) (phys : Phys) (report : Report) → written c phys (Err report)
    → IsRefusal report
written_refuses c phys report h = ap is_done h.1

netlist_refuses : (rec : DeviceRec) (c : NamedCells) (report : Report)
    → netlist_for rec c (Err report) → IsRefusal report
netlist_refuses rec c report h = refuses (placed rec c) (λ phys. written c phys) report
    (placed_refuses rec c report) (λ phys. written_refuses c phys report) h

answer_for_refuses : (d : NamedDevice) (design : Content) (report : Report)
    → answer_for d design (Err report) → IsRefusal report
answer_for_refuses d design report h =
    refuses (opens Design design)
    (λ all. and_then (design_in d all) (λ read. and_then (cells_in d.rec read)
    (λ c. netlist_for d.rec c)))
    report (opens_refuses Design design report)
    (λ all k. refuses (design_in d all) (λ read. and_then (cells_in d.rec read)
    (λ c. netlist_for d.rec c)) report
    (design_refuses d all report) (λ read l. refuses (cells_in d.rec read)
    (λ c. netlist_for d.rec c) report (cells_refuse d.rec read report)
    (λ c. netlist_refuses d.rec c report) l) k) h

pub answer_refuses : (device design : Content) (report : Report) → answer device design (Err report)
    → IsRefusal report
answer_refuses device design report h =
    refuses (opens Device device) (λ all. and_then (device_in all) (λ d. answer_for d design))
    report (opens_refuses Device device report)
    (λ all k. refuses (device_in all) (λ d. answer_for d design) report (device_refuses all report)
    (λ d. answer_for_refuses d design report) k) h

written_one : (c : NamedCells) (phys : Phys) (outcome : Outcome) → written c phys (Ok outcome)
    → HasOne outcome
written_one c phys outcome h =
    let one : length outcome.outputs ≡ 1 = ap length h.outputs_are in
    let done : (if writes outcome.report then 1 else 0) ≡ 1 =
    ap (λ (x : Report). if writes x then 1 else 0) h.report_is in
    one ∙ sym done

answer_for_one : (d : NamedDevice) (design : Content) (outcome : Outcome)
    → answer_for d design (Ok outcome) → HasOne outcome
answer_for_one d design outcome h =
    goes_on_to HasOne (opens Design design)
    (λ all. and_then (design_in d all) (λ read. and_then (cells_in d.rec read)
    (λ c. netlist_for d.rec c))) outcome
    (λ all k. goes_on_to HasOne (design_in d all) (λ read. and_then (cells_in d.rec read)
    (λ c. netlist_for d.rec c)) outcome
    (λ read l. goes_on_to HasOne (cells_in d.rec read) (λ c. netlist_for d.rec c) outcome
    (λ c m. goes_on_to HasOne (placed d.rec c) (λ phys. written c phys) outcome
    (λ phys. written_one c phys outcome) m) l) k) h

pub answer_one : (device design : Content) (outcome : Outcome) → answer device design (Ok outcome)
    → HasOne outcome
answer_one device design outcome h =
    goes_on_to HasOne (opens Device device)
    (λ all. and_then (device_in all) (λ d. answer_for d design)) outcome
    (λ all k. goes_on_to HasOne (device_in all) (λ d. answer_for d design) outcome
    (λ d. answer_for_one d design outcome) k) h

pub refused_none : {M : Type 0} (device design : Content) (stop : Stop) (r : Result made.Outcome M)
    → Meets outcome_seen (answer device design) (Err stop)
    → IfOk r (λ o. stop ≡ Refused o.report) → IfOk r (λ o. o.outputs ≡ [])
    → IfOk r (λ o. HasOutputs 1 (outcome_seen o))
refused_none device design stop (Ok o) h is none =
    let refusal : answer device design (Err o.report) =
    subst (λ (s : Stop). Meets outcome_seen (answer device design) (Err s)) is h in
    let empty : length o.outputs ≡ 0 = ap length none in
    let undone : (if writes o.report then 1 else 0) ≡ 0 =
    ap (λ (b : Bool). if b then 1 else 0)
    (not_written o.report (answer_refuses device design o.report refusal)) in
    empty ∙ sym undone
refused_none device design stop (Err e) h is none = tt
