-- What status 0 of `flow` says of the netlist that it wrote. No pin of the flat design is on a net
-- yet, and so it has no LUT cell: no rule on segments, on trees or on tables has anything to judge.
use Rattle.std.specs.Prelude.{◌≡◌, ℕ, List, [], ◌∷◌, length, map, slice_get, Option, Some}
use Rattle.std.specs.Prelude.{None, option_map, option_and_then, Ok}
use Rattle.std.specs.FinMap.{empty, get}
use Rattle.ix_frame.specs.Segments.{Segments}
use Rattle.ix_message.specs.Shape.{Text}
use Rattle.ix_message.specs.Message.{reading}
use Rattle.ix_message.specs.Phys.{phys_netlist}
use Rattle.ix_rec.specs.declared.device.DeviceRec.{DeviceRec}
use Rattle.ix_rec.specs.declared.phys.CellPlacement.{CellPlacement}
use Rattle.ix_rec.specs.declared.phys.Phys.{Phys}
use Rattle.ix_device.specs.Lookups.{name_of_site}
use Rattle.ix_shelf.specs.Shelf.{Files, with_file}
use Rattle.ix_job.specs.Outside.{Outside}
use Rattle.ix_job.specs.Job.{Content, AreContents}
use Rattle.ix_phys_write.specs.Record.{phys_record}
use Rattle.ix_rec.specs.declared.flow.Flat.{Flat}
use Rattle.ix_hierarchy.specs.FlatDesign.{cell_texts}
use Rattle.ix_belmap.specs.Pins.{fixings, IsFixed}
use Rattle.ix_first_fit.specs.declared.cell.Spot.{Spot}
use Rattle.ix_first_fit.specs.Netlist.{bel_name, IsPinMap}
use Rattle.ix_legal.specs.declared.level.Level.{Level}
use Rattle.ix_legal.specs.declared.level.Level.TheVariants.{Routed}
use Rattle.ix_legal.specs.Legal.{Legal}
use Rattle.ix_flow.specs.Words.{Asked, Check, Flow, checking, flowing}
use Rattle.ix_strings.specs.Names.{KeepsNumbers}
use Rattle.ix_check.specs.Checked.{IsAccepted}
use Rattle.ix_flow.specs.declared.status.Status.{Status}
use Rattle.ix_flow.specs.declared.status.Status.TheVariants.{Done}
use Rattle.ix_flow.specs.CheckAnswer.{NamedPhys, IsPhysRead}
use Rattle.ix_flow.specs.Answer.{opened, NamedDevice, IsValid, NamedDesign, IsDesignRead}
use Rattle.ix_flow.specs.Answer.{NamedFlat, IsFlatDesign}

-- A placement is on this place: these are the names of its site and BEL, and its pin map is the whole
-- map of the device for its cell type there.
pub record HasWholeMap (rec : DeviceRec) (m : CellPlacement) (p : Spot) : Type 0 where
  pub site : name_of_site rec p.site ≡ Some m.site
  pub bel : bel_name rec p ≡ Some m.bel
  pub pins : IsPinMap rec m.ty p m.bel m.pin_map

-- so is each, on its own
pub record HaveWholeMaps (rec : DeviceRec) (phys : Phys) (places : List Spot) : Type 0 where
  pub count : length places ≡ length phys.placements
  pub each : (k : ℕ) (m : CellPlacement) (p : Spot) → slice_get phys.placements k ≡ Some m
      → slice_get places k ≡ Some p → HasWholeMap rec m p

-- the name and the type of a placed cell, as texts
abbrev pub placed_texts : List Text → CellPlacement → Option (Text × Text)
placed_texts names m = option_and_then (λ name.
    option_map (λ ty. (name, ty)) (slice_get names m.ty)) (slice_get names m.cell_name)

-- Rules E1 to E3: what is extracted from the netlist is the flat design. The netlist has no nets
-- and no tables, so no pin is on a net and no cell has a table there; the same holds of the flat
-- design.
pub record KeepsDesign (names : List Text) (flat : Flat) (phys : Phys) : Type 0 where
  pub e1 : map (placed_texts names) phys.placements ≡ map (cell_texts names) flat.cells
  pub e1_sites : flat.fixed ≡ empty
  pub e2 : flat.pins ≡ empty
  pub e2_nets : flat.nets ≡ []
  pub e3 : (cell : ℕ) → get flat.tables cell ≡ None

-- The netlist of a file implements the design of another on the device of a third: it breaks no
-- rule of the device, and what is extracted from it is the flat design with its fixed ports.
pub record Implements (device design : Content) (output : List ℕ) : Type 0 where
  pub device_segments : Segments
  pub device_opens : opened device ≡ Ok device_segments
  pub on : NamedDevice
  pub valid : IsValid device_segments on
  pub design_segments : Segments
  pub design_opens : opened design ≡ Ok design_segments
  pub design_rec : NamedDesign
  pub design_read : IsDesignRead on design_segments design_rec
  pub flattened : NamedFlat
  pub is_flat : IsFlatDesign on.rec design_rec flattened
  pub flat : Flat
  pub is_pinned : IsFixed flattened.flat (fixings flattened.names on.rec design_rec.rec) flat
  pub phys : Phys
  pub decodes : reading phys_netlist output ≡ Ok (phys_record flattened.names phys)
  pub places : List Spot
  pub whole_maps : HaveWholeMaps on.rec phys places
  -- it breaks none of the rules L1 to L10
  pub legal : Legal Routed flattened.names on.rec phys
  pub e1_e3 : KeepsDesign flattened.names flat phys

-- The netlist was written, and no other file; it implements the design on the device.
pub record HasImplemented (flow : Flow) (before after : Outside) : Type 0 where
  pub device : Content
  pub design : Content
  pub output : List ℕ
  pub read : (files : Files) → before.files ≡ Some files
      → AreContents files (flow.device ∷ flow.design ∷ []) (device ∷ design ∷ [])
  pub written : after.files ≡ option_map (with_file flow.routed output) before.files
  pub implements : Implements device design output

-- What status 0 of `check` says: the stated rules hold of the netlist of a file at the level, and
-- the design that is extracted from it is the flattened one, LUT tables being derived for a netlist
-- that has none.
pub record Accepts (level : Level) (device design physical : Content) : Type 0 where
  pub device_segments : Segments
  pub device_opens : opened device ≡ Ok device_segments
  pub on : NamedDevice
  pub valid : IsValid device_segments on
  pub design_segments : Segments
  pub design_opens : opened design ≡ Ok design_segments
  pub design_rec : NamedDesign
  pub design_read : IsDesignRead on design_segments design_rec
  pub flattened : NamedFlat
  pub is_flat : IsFlatDesign on.rec design_rec flattened
  pub flat : Flat
  pub is_pinned : IsFixed flattened.flat (fixings flattened.names on.rec design_rec.rec) flat
  pub physical_segments : Segments
  pub physical_opens : opened physical ≡ Ok physical_segments
  pub netlist : NamedPhys
  pub physical_read : IsPhysRead flattened physical_segments netlist
  pub names : List Text
  pub keeps : KeepsNumbers netlist.names names
  pub accepted : IsAccepted level names on.rec netlist.phys flat

-- No file has changed, and the netlist is accepted.
pub record HasAccepted (check : Check) (before after : Outside) : Type 0 where
  pub device : Content
  pub design : Content
  pub physical : Content
  pub read : (files : Files) → before.files ≡ Some files
      → AreContents files (check.device ∷ check.design ∷ check.physical ∷ [])
      (device ∷ design ∷ physical ∷ [])
  pub kept : after.files ≡ before.files
  pub accepts : Accepts check.level device design physical

-- What it says of a run that it ended with status 0, or that a done job's line wasn't wholly put.
-- A netlist that is refused is put too, so the line alone doesn't tell that it was accepted.
abbrev pub IsImplemented : Option Asked → (before after : Outside) → Status → Type 0
IsImplemented None before after status = ⊥
IsImplemented (Some (flowing flow)) before after status = HasImplemented flow before after
IsImplemented (Some (checking check)) before after Done = HasAccepted check before after
IsImplemented (Some (checking check)) before after status = Unit {0}
