-- From what the code has to the answer.
use Rattle.std.proofs.Common.{◌≡◌, ◌∙◌, ◌≤◌, ◌^◌, ap, sym, inl, inr, ℕ, List, [], ◌∷◌, length, slice_get}
use Rattle.std.proofs.Common.{Some, None, Ok, Err, false, refl}
use Rattle.std.proofs.lemmas.Option.{same_Some}
use Rattle.ix_message.specs.Shape.{Struct, Text}
use Rattle.ix_rec.specs.declared.device.DeviceRec.{DeviceRec}
use Rattle.ix_strings.specs.Names.{AllDiffer, KeepsNumbers}
use Rattle.ix_device_read.specs.Named.{DeviceNamed}
use Rattle.ix_rec.specs.declared.flow.FlatCell.{FlatCell}
use Rattle.ix_first_fit.specs.Fit.{IsStuck}
use Rattle.ix_first_fit.specs.Fit.{IsTooFew}
use Rattle.ix_first_fit.specs.Answers.{IsFitted}
use Rattle.ix_num.specs.declared.fault.FrameFault.{FrameFault}
use Rattle.ix_rec.specs.declared.phys.Phys.{Phys}
use Rattle.ix_rec.specs.declared.place.Rule.{Rule}
use Rattle.ix_rec.specs.declared.place.Rule.TheVariants.{I1}
use Rattle.ix_rec.specs.declared.place.File.{File}
use Rattle.ix_rec.specs.declared.place.File.TheVariants.{Device, Design}
use Rattle.ix_rec.specs.declared.place.Place.{Place}
use Rattle.ix_rec.specs.declared.place.Place.TheVariants as places
use Rattle.ix_report.specs.declared.report.Report.TheVariants.{Bad, TooFewBels, NoSite}
use Rattle.ix_frame.specs.Segments.{Segments}
use Rattle.ix_message.specs.Message.{frame, reading, encoding, is_too_long}
use Rattle.ix_message.specs.Device.{device}
use Rattle.ix_message.specs.Netlist.{netlist}
use Rattle.ix_message.specs.Phys.{phys_netlist}
use Rattle.ix_device_read.specs.Records.{device_record}
use Rattle.ix_device_read.specs.Reading.{reading_in_segments, IsBadField}
use Rattle.ix_device_rules.specs.Broken.{IsBreach}
use Rattle.ix_device_rules.specs.Rules.{first_broken}
use Rattle.ix_phys_write.specs.Record.{phys_record, IsPhysNamed}
use Rattle.ix_job.specs.Job.{Outcome}
use Rattle.ix_job.specs.Chain.{Meets}
use Rattle.ix_job.specs.declared.stop.Stop.{Stop}
use Rattle.ix_job.specs.declared.stop.Stop.TheVariants.{Refused, Memory as NoMemory}
use Rattle.ix_rec.specs.declared.flow.Flat.{Flat}
use Rattle.ix_rec.specs.declared.netlist.NetlistRec.{NetlistRec}
use Rattle.ix_logic_read.specs.Record.{netlist_record, IsNetlistNamed}
use Rattle.ix_flat.specs.Range.{IsInRange, IsNamed}
use Rattle.ix_flat.specs.Whole.{IsWhole}
use Rattle.ix_hierarchy.specs.Broken.{IsBroken, IsFlattened}
use Rattle.ix_flow.specs.Answer.{NamedDevice, rule_of, device_in, design_in, placed, written}
use Rattle.ix_flow.specs.Answer.{flattened, implemented}
use Rattle.ix_flow.specs.Named.{named_device, named_design, named_flat, named_cells, TellsUnread}
use Rattle.ix_first_fit.specs.Laws.{FitsHaveOwnPlaces}

-- the name of the cell where first fit stops
pub stuck_named : (names : List Text) (rec : DeviceRec) (cells : List FlatCell) (k : ℕ) (c : FlatCell)
    (text : Text) (s : IsStuck rec cells k) → slice_get cells k ≡ Some c
    → slice_get names c.name ≡ Some text
    → slice_get names s.cell.name ≡ Some text
stuck_named names rec cells k c text s at told =
    ap (λ (x : FlatCell). slice_get names x.name) (same_Some s.cell c (sym s.at ∙ at)) ∙ told

-- what each step tells
pub device_told : (all : Segments) (names : List Text) (rec : DeviceRec) → AllDiffer names
    → reading_in_segments device all ≡ Ok (device_record names rec)
    → DeviceNamed (length names) rec → first_broken rec ≡ None
    → device_in all (Ok (named_device names rec))
device_told all names rec differ reads named valid =
    record { read = record { differ = differ; reads = reads; named = named }; valid = valid }

pub rule_told : (all : Segments) (names : List Text) (rec : DeviceRec) (rule : Rule) (place : Place)
    → AllDiffer names → reading_in_segments device all ≡ Ok (device_record names rec)
    → DeviceNamed (length names) rec → IsBreach (first_broken rec) rule place
    → device_in all (Err (Bad Device rule place))
rule_told all names rec rule place differ reads named broken = (
  rule,
  place,
  inr record {
    from_device = named_device names rec;
    read = record { differ = differ; reads = reads; named = named };
    broken = broken;
  },
  refl,
)

-- a fault of reading, as it is told of any file
pub frame_told : (file : File) (message : Struct) (all : Segments) (fault : FrameFault)
    → reading_in_segments message all ≡ Err (frame fault)
    → TellsUnread file message all
    (Refused (Bad file (rule_of fault.rule) (places.At fault.segment fault.word)))
frame_told file message all fault found = (
  _,
  _,
  inl record { fault = fault; found = found; rule_is = refl; place_is = refl },
  refl,
)

-- what is told of a device that can't be read
pub unread_device : (all : Segments) (stop : Stop) → TellsUnread Device device all stop
    → Meets (named_device []) (device_in all) (Err stop)
unread_device all (Refused report) h = (h.0, h.1, inl h.2, h.3)
unread_device all NoMemory h = tt

-- the same of a design
pub unread_design : (names : List Text) (d : NamedDevice) (all : Segments) (stop : Stop)
    → TellsUnread Design netlist all stop → Meets (named_design names) (design_in d all) (Err stop)
unread_design names d all (Refused report) h = h
unread_design names d all NoMemory h = tt

pub design_told : (d : NamedDevice) (all : Segments) (names : List Text) (rec : NetlistRec)
    → KeepsNumbers d.names names → AllDiffer names
    → reading_in_segments netlist all ≡ Ok (netlist_record names rec) → IsNetlistNamed names rec
    → design_in d all (Ok (named_design names rec))
design_told d all names rec keeps differ reads named =
    record { keeps = keeps; differ = differ; reads = reads; named = named }

pub flat_told : (rec : DeviceRec) (old names : List Text) (design : NetlistRec) (flat : Flat)
    → KeepsNumbers old names → AllDiffer names → IsFlattened names rec design flat
    → IsInRange rec flat → IsNamed (length names) flat → IsWhole names rec flat
    → length flat.cells ≤ 2 ^ 22
    → flattened rec (named_design old design) (Ok (named_flat names flat))
flat_told rec old names design flat keeps differ is range named whole most_cells = record {
  keeps = keeps;
  differ = differ;
  flattened = is;
  range = range;
  named = named;
  whole = whole;
  most_cells = most_cells;
}

pub broken_told : (rec : DeviceRec) (old names : List Text) (design : NetlistRec) (rule : Rule)
    (word : Text) → KeepsNumbers old names → IsBroken names rec design rule word
    → flattened rec (named_design old design) (Err (Bad Design rule (places.Named word)))
broken_told rec old names design rule word keeps is =
    (rule, word, record { names = names; keeps = keeps; broken = is }, refl)

pub too_few_told : (rec : DeviceRec) (names : List Text) (cells : List FlatCell) (kind n bels : ℕ)
    (text : Text) → IsTooFew rec cells kind n bels → slice_get names kind ≡ Some text
    → placed rec (named_cells names cells) (Err (TooFewBels text n bels))
too_few_told rec names cells kind n bels text few is =
    inl record {
      type_id = kind;
      kind = text;
      cells = n;
      bels = bels;
      too_few = few;
      type_is =
          is;
      report_is = refl;
    }

pub no_site_told : (rec : DeviceRec) (names : List Text) (cells : List FlatCell) (k : ℕ) (text : Text)
    (s : IsStuck rec cells k) → slice_get names s.cell.name ≡ Some text
    → placed rec (named_cells names cells) (Err (NoSite text))
no_site_told rec names cells k text s is =
    inr record { place = k; cell = text; stuck = s; cell_is = is; report_is = refl }

pub placed_told : FitsHaveOwnPlaces → (rec : DeviceRec) (names : List Text) (cells : List FlatCell)
    (phys : Phys) → IsFitted rec cells phys → IsPhysNamed names phys
    → placed rec (named_cells names cells) (Ok phys)
placed_told own_places rec names cells phys fitted named =
    record { fitted = fitted; own = own_places rec cells phys fitted; named = named }

pub written_told : (names : List Text) (cells : List FlatCell) (phys : Phys) (bytes : List ℕ)
    (outcome : Outcome) → is_too_long phys_netlist (phys_record names phys) ≡ false
    → bytes ≡ encoding phys_netlist (phys_record names phys)
    → reading phys_netlist bytes ≡ Ok (phys_record names phys)
    → outcome ≡ record {
      report = implemented (length cells) (length phys.site_insts);
      outputs =
          bytes ∷ [];
    } → written (named_cells names cells) phys (Ok outcome)
written_told names cells phys bytes outcome fits encoded decodes is =
    record {
      bytes = bytes;
      fits = fits;
      encoded = encoded;
      decodes = decodes;
      outputs_are =
          ap (λ (o : Outcome). o.outputs) is;
      report_is = ap (λ (o : Outcome). o.report) is;
    }

pub index_told : (file : File) (message : Struct) (all : Segments) (place : Place)
    → IsBadField place (reading_in_segments message all)
    → TellsUnread file message all (Refused (Bad file I1 place))
index_told file message all (places.Item k f i) h = (
  _,
  _,
  inr record {
    item = record { kind = k; field = f; index = i };
    found = h;
    rule_is = refl;
    place_is = refl;
  },
  refl,
)
index_told file message all places.File h = absurd h
index_told file message all (places.At s w) h = absurd h
index_told file message all (places.Named n) h = absurd h
index_told file message all (places.Cell n) h = absurd h
index_told file message all (places.Pin a b) h = absurd h
index_told file message all (places.Segment n i) h = absurd h
index_told file message all (places.Element s k) h = absurd h
index_told file message all (places.Site n) h = absurd h
index_told file message all (places.Key k) h = absurd h
