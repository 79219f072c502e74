-- What the answer of `check` says of its outcome.
use Rattle.std.proofs.Common.{◌≡◌, ◌∙◌, refl, ap, sym, inl, inr, ℕ, List, [], ◌∷◌, length}
use Rattle.std.proofs.Common.{Result, Ok, Err, Bool, true, false, IfOk, Some, arith}
use Rattle.std.proofs.lemmas.Option.{same_Some}
use Rattle.std.specs.Prelude.{if◌then◌else◌, slice_get}
use Rattle.ix_rec.specs.declared.device.DeviceRec.{DeviceRec}
use Rattle.ix_rec.specs.declared.flow.Flat.{Flat}
use Rattle.ix_rec.specs.declared.place.File.TheVariants.{Device, Design}
use Rattle.ix_report.specs.declared.report.Report.{Report}
use Rattle.ix_report.specs.declared.report.Report.TheVariants as a_report
use Rattle.ix_legal.specs.declared.level.Level.{Level}
use Rattle.ix_job.specs.declared.work.Outcome as made
use Rattle.ix_job.specs.Views.{outcome_seen}
use Rattle.ix_job.specs.Outside.{writes, is_done}
use Rattle.ix_job.specs.Chain.{Step, and_then}
use Rattle.ix_job.specs.Job.{Content, Outcome, HasOutputs}
use Rattle.ix_flow.specs.declared.status.Status.TheVariants as stat
use Rattle.ix_flow.specs.Status.{status_of}
use Rattle.ix_flow.specs.Answer.{NamedDevice, NamedDesign, NamedFlat, opens, device_in}
use Rattle.ix_flow.specs.Answer.{design_in, flattened, pinned}
use Rattle.ix_flow.specs.CheckAnswer.{NamedPhys, physical_in, judged, check_flat, check_design}
use Rattle.ix_flow.specs.CheckAnswer.{check_on, check_answer}
use Rattle.ix_flow.specs.Implements.{Accepts}
use Rattle.ix_flow.proofs.Outputs.{IsRefusal, opens_refuses, device_refuses, design_refuses}
use Rattle.ix_flow.proofs.Outputs.{flattened_refuses, pinned_refuses}

-- a report of status 0 is of a job that is done
pub is_of_done : (report : Report) → status_of report ≡ stat.Done → is_done report ≡ true
is_of_done (a_report.Packed cells clusters) e = refl
is_of_done (a_report.Placed clusters length) e = refl
is_of_done (a_report.Routed nets pips rounds) e = refl
is_of_done (a_report.Implemented cells clusters nets pips trial rounds) e = refl
is_of_done (a_report.Yes derived) e = refl
is_of_done (a_report.No rule place) e = refl
is_of_done (a_report.Demo number luts flip_flops ports) e = refl
is_of_done a_report.Usage e = let bad : stat.Usage ≡ stat.Done = e in cc
is_of_done (a_report.Bad file rule place) e = let bad : stat.Bad file rule place ≡ stat.Done = e in
    cc
is_of_done (a_report.NotBuilt file) e = let bad : stat.NotBuilt file ≡ stat.Done = e in cc
is_of_done a_report.TooLong e = let bad : stat.TooLong ≡ stat.Done = e in cc
is_of_done (a_report.TooFewBels kind cells bels) e =
    let bad : stat.TooFewBels kind cells bels ≡ stat.Done = e in cc
is_of_done (a_report.Unpackable cell) e = let bad : stat.Unpackable cell ≡ stat.Done = e in cc
is_of_done (a_report.NoSite cell) e = let bad : stat.NoSite cell ≡ stat.Done = e in cc
is_of_done (a_report.Unreachable net node) e = let bad : stat.Unreachable net node ≡ stat.Done =
    e in cc
is_of_done (a_report.Congested node a b rounds trial) e =
    let bad : stat.Congested node a b rounds trial ≡ stat.Done = e in cc
is_of_done (a_report.ReadFault file) e = let bad : stat.ReadFault file ≡ stat.Done = e in cc
is_of_done (a_report.WriteFault file) e = let bad : stat.WriteFault file ≡ stat.Done = e in cc
is_of_done a_report.OutOfMemory e = let bad : stat.OutOfMemory ≡ stat.Done = e in cc

-- A refusal doesn't end with status 0.
abbrev IsNotDone : Report → Type 0
IsNotDone report = status_of report ≡ stat.Done → ⊥

not_done : (report : Report) → IsRefusal report → IsNotDone report
not_done report refused done = let bad : true ≡ false = sym (is_of_done report done) ∙ refused in cc

stops : {A B : Type 0} (step : Step A) (next : A → Step B) (report : Report)
    → (step (Err report) → IsNotDone report) → ((a : A) → next a (Err report) → IsNotDone report)
    → and_then step next (Err report) → IsNotDone report
stops step next report f g (inl h) = f h
stops step next report f g (inr h) = g h.0 h.2

physical_stops : (f : NamedFlat) (content : Content) (report : Report)
    → physical_in f content (Err report) → IsNotDone report
physical_stops f content report h done =
    let bad : stat.No h.0 h.1 ≡ stat.Done = sym (ap status_of h.3) ∙ done in cc

judged_stops : (level : Level) (rec : DeviceRec) (flat : Flat) (p : NamedPhys) (report : Report)
    → judged level rec flat p (Err report) → IsNotDone report
judged_stops level rec flat p report h done =
    let bad : stat.No h.1 h.2 ≡ stat.Done = sym (ap status_of h.5) ∙ done in cc

flat_stops : (level : Level) (rec : DeviceRec) (f : NamedFlat) (flat : Flat) (physical : Content)
    (report : Report) → check_flat level rec f flat physical (Err report) → IsNotDone report
flat_stops level rec f flat physical report h = stops (physical_in f physical)
    (λ p. judged level rec flat p) report (physical_stops f physical report)
    (λ p. judged_stops level rec flat p report) h

design_stops : (level : Level) (rec : DeviceRec) (design : NamedDesign) (physical : Content)
    (report : Report) → check_design level rec design physical (Err report) → IsNotDone report
design_stops level rec design physical report h =
    stops (flattened rec design)
    (λ f. and_then (pinned rec design f) (λ flat. check_flat level rec f flat physical)) report
    (λ k. not_done report (flattened_refuses rec design report k))
    (λ f k. stops (pinned rec design f) (λ flat. check_flat level rec f flat physical) report
    (λ l. not_done report (pinned_refuses rec design f report l))
    (λ flat. flat_stops level rec f flat physical report) k) h

on_stops : (level : Level) (d : NamedDevice) (design physical : Content) (report : Report)
    → check_on level d design physical (Err report) → IsNotDone report
on_stops level d design physical report h =
    stops (opens Design design)
    (λ all. and_then (design_in d all) (λ read. check_design level d.rec read physical)) report
    (λ k. not_done report (opens_refuses Design design report k))
    (λ all k. stops (design_in d all) (λ read. check_design level d.rec read physical) report
    (λ l. not_done report (design_refuses d all report l))
    (λ read. design_stops level d.rec read physical report) k) h

pub check_refuses : (level : Level) (device design physical : Content) (report : Report)
    → check_answer level device design physical (Err report) → status_of report ≡ stat.Done → ⊥
check_refuses level device design physical report h =
    stops (opens Device device)
    (λ all. and_then (device_in all) (λ d. check_on level d design physical)) report
    (λ k. not_done report (opens_refuses Device device report k))
    (λ all k. stops (device_in all) (λ d. check_on level d design physical) report
    (λ l. not_done report (device_refuses all report l))
    (λ d. on_stops level d design physical report) k) h

-- What an answer says that isn't a refusal.
pub accepts : (level : Level) (device design physical : Content) (outcome : Outcome)
    → check_answer level device design physical (Ok outcome) → Accepts level device design physical
accepts level device design physical outcome h =
    let rest = h.2.2 in
    let flat = rest.2.2 in
    let read = flat.2.2 in
    record {
      device_segments = h.0;
      device_opens = h.1;
      on = h.2.0;
      valid = h.2.1;
      design_segments = rest.0;
      design_opens = rest.1;
      design_rec = rest.2.0;
      design_read = rest.2.1;
      flattened = flat.0;
      is_flat = flat.1;
      flat = flat.2.0;
      is_pinned = flat.2.1;
      physical_segments = read.1.0;
      physical_opens = read.1.1;
      netlist = read.0;
      physical_read = read.1.2;
      names = read.2.0;
      keeps = read.2.2;
      accepted = read.2.3;
    }

-- It has no outputs.
none_either_way : (b : Bool) → ◌≡◌ {A = ℕ} (if b then 0 else 0) 0
none_either_way true = refl
none_either_way false = refl

has_none : (outcome : Outcome) → outcome.outputs ≡ [] → HasOutputs 0 outcome
has_none outcome none = ap length none ∙ sym (none_either_way (writes outcome.report))

pub answer_none : (level : Level) (device design physical : Content) (outcome : Outcome)
    → check_answer level device design physical (Ok outcome) → HasOutputs 0 outcome
answer_none level device design physical outcome h =
    has_none outcome (h.2.2.2.2.2.2.2.6)

pub refusal_none : {M : Type 0} (r : Result made.Outcome M) → IfOk r (λ o. o.outputs ≡ [])
    → IfOk r (λ o. HasOutputs 0 (outcome_seen o))
refusal_none (Ok o) none = has_none (outcome_seen o) none
refusal_none (Err e) none = tt

-- a list of three items
pub three_items : {A : Type 0} (xs : List A) (a b c : A) → length xs ≡ 3 → slice_get xs 0 ≡ Some a
    → slice_get xs 1 ≡ Some b → slice_get xs 2 ≡ Some c → xs ≡ a ∷ b ∷ c ∷ []
three_items [] a b c n p q r = absurd (omega (arith, n))
three_items (x ∷ []) a b c n p q r = absurd (omega (arith, n))
three_items (x ∷ y ∷ []) a b c n p q r = absurd (omega (arith, n))
three_items (x ∷ y ∷ z ∷ []) a b c n p q r = let h : x ≡ a = same_Some x a p in let k : y ≡ b =
    same_Some y b q in let l : z ≡ c = same_Some z c r in cc
three_items (x ∷ y ∷ z ∷ w ∷ xs) a b c n p q r = absurd (omega (arith, n))
