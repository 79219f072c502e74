-- What `check` answers to the contents of its three files, where nothing fails and memory doesn't
-- run out.
use Rattle.std.specs.Prelude.{◌≡◌, ◌⊎◌, Bool, List, [], ◌∷◌, Ok, Err}
use Rattle.ix_rec.specs.declared.device.DeviceRec.{DeviceRec}
use Rattle.ix_rec.specs.declared.flow.Flat.{Flat}
use Rattle.ix_rec.specs.declared.phys.Phys.{Phys}
use Rattle.ix_rec.specs.declared.place.File.TheVariants.{Device, Design}
use Rattle.ix_rec.specs.declared.place.Place.{Place}
use Rattle.ix_rec.specs.declared.place.Place.TheVariants as places
use Rattle.ix_rec.specs.declared.place.Rule.{Rule}
use Rattle.ix_report.specs.declared.report.Report.TheVariants.{Yes, No}
use Rattle.ix_frame.specs.Segments.{Segments}
use Rattle.ix_strings.specs.Names.{AllDiffer, KeepsNumbers}
use Rattle.ix_message.specs.Shape.{Text}
use Rattle.ix_message.specs.Phys.{phys_netlist}
use Rattle.ix_device_read.specs.Reading.{reading_in_segments}
use Rattle.ix_phys_write.specs.Record.{phys_record, IsPhysNamed}
use Rattle.ix_legal.specs.declared.level.Level.{Level}
use Rattle.ix_check.specs.Checked.{IsAccepted, IsDerived, BreaksRule, Differs}
use Rattle.ix_job.specs.Chain.{Step, ◌>>=◌, comes_to}
use Rattle.ix_job.specs.Job.{Content, Outcome}
use Rattle.ix_flow.specs.Answer.{opened, opens, device_in, design_in, flattened, pinned}
use Rattle.ix_flow.specs.Answer.{NamedDevice, NamedDesign, NamedFlat, BreaksReading}

-- a physical netlist, over more names
pub record NamedPhys : Type 0 where
  pub names : List Text
  pub phys : Phys

-- A netlist was read from a file. The names so far have kept their numbers, and no two are alike.
pub record IsPhysRead (f : NamedFlat) (all : Segments) (p : NamedPhys) : Type 0 where
  pub keeps : KeepsNumbers f.names p.names
  pub differ : AllDiffer p.names
  pub reads : reading_in_segments phys_netlist all ≡ Ok (phys_record p.names p.phys)
  pub named : IsPhysNamed p.names p.phys

-- a file isn't one of a netlist, and this is the first rule that it breaks as it is read
abbrev pub BreaksFile : Content → Rule → Place → Type 0
BreaksFile content rule place = ((opened content ≡ Err rule) × (place ≡ places.File))
    ⊎ ((all : Segments) × (opened content ≡ Ok all) × BreaksReading phys_netlist all rule place)

-- the netlist of a file; one that has none is refused as a netlist that breaks a rule is
abbrev pub physical_in : NamedFlat → Content → Step NamedPhys
physical_in f content (Ok p) = (all : Segments) × (opened content ≡ Ok all) × IsPhysRead f all p
physical_in f content (Err report) = (rule : Rule) × (place : Place)
    × BreaksFile content rule place × (report ≡ No rule place)

-- A netlist is accepted at a level, or refused for the least rule that it breaks. More names may
-- have come by then, which have no other numbers.
abbrev pub judged : Level → DeviceRec → Flat → NamedPhys → Step Outcome
judged level rec flat p (Ok outcome) = (names : List Text) × (derived : Bool)
    × KeepsNumbers p.names names × IsAccepted level names rec p.phys flat
    × IsDerived names rec p.phys derived × (outcome.report ≡ Yes derived)
    × (outcome.outputs ≡ [])
judged level rec flat p (Err report) = (names : List Text) × (rule : Rule) × (place : Place)
    × KeepsNumbers p.names names
    × (BreaksRule level names rec p.phys flat rule place
    ⊎ Differs level names rec p.phys flat rule place) × (report ≡ No rule place)

-- The answer: the device is judged before the design, which is flattened and whose ports are fixed;
-- then the netlist is read and judged.
abbrev pub check_flat : Level → DeviceRec → NamedFlat → Flat → (physical : Content) → Step Outcome
check_flat level rec f flat physical = do
  p ← physical_in f physical
  judged level rec flat p

abbrev pub check_design : Level → DeviceRec → NamedDesign → (physical : Content) → Step Outcome
check_design level rec design physical = do
  f ← flattened rec design
  flat ← pinned rec design f
  check_flat level rec f flat physical

abbrev pub check_on : Level → NamedDevice → (design physical : Content) → Step Outcome
check_on level d design physical = do
  all ← opens Design design
  read ← design_in d all
  check_design level d.rec read physical

abbrev pub check_answer : Level → (device design physical : Content) → Step Outcome
check_answer level device design physical = do
  all ← opens Device device
  d ← device_in all
  check_on level d design physical

-- the same as a job of three inputs
abbrev pub IsCheckOutcome : Level → List Content → Outcome → Type 0
IsCheckOutcome level (device ∷ design ∷ physical ∷ []) outcome =
    comes_to (check_answer level device design physical) outcome
IsCheckOutcome level contents outcome = ⊥
