-- What `flow` answers to the contents of its two files, where nothing fails and memory doesn't run
-- out.
use Rattle.std.specs.Prelude.{◌≡◌, ◌⊎◌, ◌≤◌, ℕ, ◌^◌, true, false, nat_lt, List, [], ◌∷◌, length}
use Rattle.std.specs.Prelude.{slice_get, Result, Ok, Err, Some, None, if◌then◌else◌}
use Rattle.std.specs.FinMap.{empty}
use Rattle.ix_num.specs.declared.fault.FrameFault.{FrameFault}
use Rattle.ix_num.specs.declared.fault.FrameRule.{FrameRule}
use Rattle.ix_num.specs.declared.fault.FrameRule.TheVariants as framed_rule
use Rattle.ix_rec.specs.declared.device.DeviceRec.{DeviceRec}
use Rattle.ix_rec.specs.declared.phys.Phys.{Phys}
use Rattle.ix_rec.specs.declared.place.Rule.{Rule}
use Rattle.ix_rec.specs.declared.place.Rule.TheVariants.{F1, F2, F3, F4, F5, F6, F7, F8, F9, I1}
use Rattle.ix_rec.specs.declared.place.File.{File}
use Rattle.ix_rec.specs.declared.place.File.TheVariants.{Device, Design}
use Rattle.ix_rec.specs.declared.place.Place.{Place}
use Rattle.ix_rec.specs.declared.place.Place.TheVariants as places
use Rattle.ix_report.specs.declared.report.Report as reports
use Rattle.ix_report.specs.declared.report.Report.TheVariants.{Implemented, Bad, NotBuilt, TooLong}
use Rattle.ix_report.specs.declared.report.Report.TheVariants.{TooFewBels, NoSite}
use Rattle.ix_frame.specs.Segments.{Segments, segments}
use Rattle.ix_strings.specs.Names.{AllDiffer, KeepsNumbers}
use Rattle.ix_message.specs.Shape.{Struct, Text, Value}
use Rattle.ix_message.specs.Names.{Datum}
use Rattle.ix_message.specs.Indexes.{Item}
use Rattle.ix_message.specs.Message.{frame, out_of_list, reading, encoding, is_too_long}
use Rattle.ix_message.specs.Device.{device}
use Rattle.ix_message.specs.Netlist.{netlist}
use Rattle.ix_message.specs.Phys.{phys_netlist}
use Rattle.ix_device_read.specs.Named.{DeviceNamed}
use Rattle.ix_device_read.specs.Records.{device_record}
use Rattle.ix_device_read.specs.Reading.{reading_in_segments}
use Rattle.ix_device_rules.specs.Broken.{IsBreach}
use Rattle.ix_device_rules.specs.Rules.{first_broken}
use Rattle.ix_job.specs.Job.{Content, Outcome}
use Rattle.ix_job.specs.Chain.{Step, ◌>>=◌, comes_to}
use Rattle.ix_phys_write.specs.Record.{phys_record, IsPhysNamed}
use Rattle.ix_rec.specs.declared.flow.Flat.{Flat}
use Rattle.ix_rec.specs.declared.flow.FlatCell.{FlatCell}
use Rattle.ix_rec.specs.declared.netlist.NetlistRec.{NetlistRec}
use Rattle.ix_logic_read.specs.Record.{netlist_record, IsNetlistNamed}
use Rattle.ix_flat.specs.Range.{IsInRange, IsNamed}
use Rattle.ix_flat.specs.Whole.{IsWhole}
use Rattle.ix_hierarchy.specs.Broken.{IsBroken, IsFlattened}
use Rattle.ix_belmap.specs.Pins.{fixings, IsFixed, IsBroken as BreaksPins}
use Rattle.ix_first_fit.specs.Fit.{IsTooFew, IsStuck}
use Rattle.ix_first_fit.specs.Answers.{IsFitted}
use Rattle.ix_first_fit.specs.Laws.{HasOwnPlaces}

-- a frame's rule as a rule of the program
abbrev pub rule_of : FrameRule → Rule
rule_of framed_rule.F1 = F1
rule_of framed_rule.F2 = F2
rule_of framed_rule.F3 = F3
rule_of framed_rule.F4 = F4
rule_of framed_rule.F5 = F5
rule_of framed_rule.F6 = F6
rule_of framed_rule.F7 = F7
rule_of framed_rule.F8 = F8

abbrev pub ruled : Result Segments FrameRule → Result Segments Rule
ruled (Ok all) = Ok all
ruled (Err rule) = Err (rule_of rule)

-- the segments of a file, or the first rule that the file as a whole breaks: F9, F1, F2
unfoldable pub opened : Content → Result Segments Rule
opened (Some bytes) = if nat_lt (2 ^ 30) (length bytes) then Err F9 else ruled (segments bytes)
opened None = Err F9

abbrev pub opens : File → Content → Step Segments
opens file content (Ok all) = opened content ≡ Ok all
opens file content (Err report) = (rule : Rule) × (opened content ≡ Err rule)
    × (report ≡ Bad file rule places.File)

-- A device, over a table of names.
pub record NamedDevice : Type 0 where
  pub names : List Text
  pub rec : DeviceRec

-- A device was read from segments. Its names are numbers of the table, in which no two are alike:
-- so equal texts have equal numbers, the empty text too.
pub record IsRead (all : Segments) (d : NamedDevice) : Type 0 where
  pub differ : AllDiffer d.names
  pub reads : reading_in_segments device all ≡ Ok (device_record d.names d.rec)
  pub named : DeviceNamed (length d.names) d.rec

pub record IsValid (all : Segments) (d : NamedDevice) : Type 0 where
  pub read : IsRead all d
  pub valid : first_broken d.rec ≡ None

-- The first rule that a file breaks as it is read, and where: a rule of its frame, an index out of
-- its list.
pub record BreaksFrame (message : Struct) (all : Segments) (rule : Rule) (place : Place) : Type 0
  where
    pub fault : FrameFault
    pub found : reading_in_segments message all ≡ Err (frame fault)
    pub rule_is : rule ≡ rule_of fault.rule
    pub place_is : place ≡ places.At fault.segment fault.word

pub record BreaksIndex (message : Struct) (all : Segments) (rule : Rule) (place : Place) : Type 0
  where
    pub item : Item
    pub found : reading_in_segments message all ≡ Err (out_of_list item)
    pub rule_is : rule ≡ I1
    pub place_is : place ≡ places.Item item.kind item.field item.index

abbrev pub BreaksReading : (message : Struct) → Segments → Rule → Place → Type 0
BreaksReading message all rule place =
    BreaksFrame message all rule place ⊎ BreaksIndex message all rule place

-- the first rule of devices that a device breaks
pub record BreaksRule (all : Segments) (rule : Rule) (place : Place) : Type 0 where
  pub from_device : NamedDevice
  pub read : IsRead all from_device
  pub broken : IsBreach (first_broken from_device.rec) rule place

abbrev pub BreaksDevice : Segments → Rule → Place → Type 0
BreaksDevice all rule place = BreaksReading device all rule place ⊎ BreaksRule all rule place

abbrev pub device_in : Segments → Step NamedDevice
device_in all (Ok d) = IsValid all d
device_in all (Err report) = (rule : Rule) × (place : Place) × BreaksDevice all rule place
    × (report ≡ Bad Device rule place)

-- A design, over more names.
pub record NamedDesign : Type 0 where
  pub names : List Text
  pub rec : NetlistRec

-- A design was read from segments. The device's names have kept their numbers, and no two names are
-- alike.
pub record IsDesignRead (d : NamedDevice) (all : Segments) (design : NamedDesign) : Type 0 where
  pub keeps : KeepsNumbers d.names design.names
  pub differ : AllDiffer design.names
  pub reads : reading_in_segments netlist all ≡ Ok (netlist_record design.names design.rec)
  pub named : IsNetlistNamed design.names design.rec

abbrev pub design_in : NamedDevice → Segments → Step NamedDesign
design_in d all (Ok design) = IsDesignRead d all design
design_in d all (Err report) = (rule : Rule) × (place : Place)
    × BreaksReading netlist all rule place × (report ≡ Bad Design rule place)

-- A flat design, over more names.
pub record NamedFlat : Type 0 where
  pub names : List Text
  pub flat : Flat

-- The flat design of a design, which breaks no rule of designs. The names so far have kept their
-- numbers, and no two are alike. Its numbers are in range and among the names, and it is whole.
pub record IsFlatDesign (rec : DeviceRec) (design : NamedDesign) (f : NamedFlat) : Type 0 where
  pub keeps : KeepsNumbers design.names f.names
  pub differ : AllDiffer f.names
  pub flattened : IsFlattened f.names rec design.rec f.flat
  pub range : IsInRange rec f.flat
  pub named : IsNamed (length f.names) f.flat
  pub whole : IsWhole f.names rec f.flat
  pub most_cells : length f.flat.cells ≤ 2 ^ 22

-- The first rule of designs that a design breaks, and the name that is told. Flat names may be
-- among the names by then.
pub record BreaksDesign (rec : DeviceRec) (design : NamedDesign) (rule : Rule) (word : Text)
    : Type 0 where
  pub names : List Text
  pub keeps : KeepsNumbers design.names names
  pub broken : IsBroken names rec design.rec rule word

abbrev pub flattened : DeviceRec → NamedDesign → Step NamedFlat
flattened rec design (Ok f) = IsFlatDesign rec design f
flattened rec design (Err report) = (rule : Rule) × (word : Text)
    × BreaksDesign rec design rule word × (report ≡ Bad Design rule (places.Named word))

-- its ports are fixed to the sites of their package pins, or P4 or P5 is broken
abbrev pub pinned : DeviceRec → NamedDesign → NamedFlat → Step Flat
pinned rec design f (Ok flat) = IsFixed f.flat (fixings f.names rec design.rec) flat
pinned rec design f (Err report) = (rule : Rule) × (word : Text)
    × BreaksPins f.names f.flat (fixings f.names rec design.rec) rule word
    × (report ≡ Bad Design rule (places.Named word))

-- no pin of it is on a net, and no port is fixed
pub record IsUnconnected (flat : Flat) : Type 0 where
  pub no_pin : flat.pins ≡ empty
  pub none_fixed : flat.fixed ≡ empty

-- The cells of a flat design, over its names.
pub record NamedCells : Type 0 where
  pub names : List Text
  pub cells : List FlatCell

-- the cells of such a design; of another, nothing more is built yet
abbrev pub unconnected : List Text → Flat → Step NamedCells
unconnected names flat (Ok c) =
    IsUnconnected flat × (c ≡ record { names = names; cells = flat.cells })
unconnected names flat (Err report) = ¬ IsUnconnected flat × (report ≡ NotBuilt Design)

-- The cells are placed by first fit, and this is their netlist: each cell is on a BEL of its own
-- that admits its type, each used site has one instance, and its names are among those of the
-- cells.
pub record IsPlaced (rec : DeviceRec) (c : NamedCells) (phys : Phys) : Type 0 where
  pub fitted : IsFitted rec c.cells phys
  pub own : HasOwnPlaces rec c.cells phys
  pub named : IsPhysNamed c.names phys

-- a type has more cells than the BELs that admit it
pub record HasTooFew (rec : DeviceRec) (c : NamedCells) (report : reports.Report) : Type 0 where
  pub type_id : ℕ
  pub kind : Text
  pub cells : ℕ
  pub bels : ℕ
  pub too_few : IsTooFew rec c.cells type_id cells bels
  pub type_is : slice_get c.names type_id ≡ Some kind
  pub report_is : report ≡ TooFewBels kind cells bels

-- first fit stops at a cell
pub record HasNoSite (rec : DeviceRec) (c : NamedCells) (report : reports.Report) : Type 0 where
  pub place : ℕ
  pub cell : Text
  pub stuck : IsStuck rec c.cells place
  pub cell_is : slice_get c.names stuck.cell.name ≡ Some cell
  pub report_is : report ≡ NoSite cell

abbrev pub placed : DeviceRec → NamedCells → Step Phys
placed rec c (Ok phys) = IsPlaced rec c phys
placed rec c (Err report) = HasTooFew rec c report ⊎ HasNoSite rec c report

abbrev pub netlist_of : NamedCells → Phys → Value Datum phys_netlist
netlist_of c phys = phys_record c.names phys

-- what is told of a design of so many cells on so many sites, without nets
abbrev pub implemented : (cells sites : ℕ) → reports.Report
implemented cells sites = Implemented cells sites 0 0 1 1

-- The netlist is written: its file is its encoding, which reads again as the netlist, and has fewer
-- than 2^27 words.
pub record IsWritten (c : NamedCells) (phys : Phys) (outcome : Outcome) : Type 0 where
  pub bytes : List ℕ
  pub fits : is_too_long phys_netlist (netlist_of c phys) ≡ false
  pub encoded : bytes ≡ encoding phys_netlist (netlist_of c phys)
  pub decodes : reading phys_netlist bytes ≡ Ok (netlist_of c phys)
  pub outputs_are : outcome.outputs ≡ bytes ∷ []
  pub report_is : outcome.report ≡ implemented (length c.cells) (length phys.site_insts)

abbrev pub written : NamedCells → Phys → Step Outcome
written c phys (Ok outcome) = IsWritten c phys outcome
written c phys (Err report) = (is_too_long phys_netlist (netlist_of c phys) ≡ true)
    × (report ≡ TooLong)

-- The answer: the device is judged before the design, which is flattened; its cells are placed, and
-- their netlist is written.
abbrev pub netlist_for : DeviceRec → NamedCells → Step Outcome
netlist_for rec c = do
  phys ← placed rec c
  written c phys

abbrev pub cells_in : DeviceRec → NamedDesign → Step NamedCells
cells_in rec design = do
  f ← flattened rec design
  flat ← pinned rec design f
  unconnected f.names flat

abbrev pub answer_for : NamedDevice → (design : Content) → Step Outcome
answer_for d design = do
  all ← opens Design design
  read ← design_in d all
  c ← cells_in d.rec read
  netlist_for d.rec c

abbrev pub answer : (device design : Content) → Step Outcome
answer device design = do
  all ← opens Device device
  d ← device_in all
  answer_for d design

-- the same as a job of two inputs
abbrev pub IsFlowOutcome : List Content → Outcome → Type 0
IsFlowOutcome (device ∷ design ∷ []) outcome = comes_to (answer device design) outcome
IsFlowOutcome contents outcome = ⊥
