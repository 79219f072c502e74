-- What a physical netlist says: its data, and what its pointers lead to, with names as texts.
use Rattle.std.specs.Prelude.{ℕ, ◌<◌, List, [], ◌∷◌, map, length, Bool, if◌then◌else◌}
use Rattle.std.specs.List.{All}
use Rattle.ix_message.specs.Shape.{Text, Value}
use Rattle.ix_message.specs.Names.{Datum, the_number, the_text, branches_map}
use Rattle.ix_message.specs.Phys.{pin_mapping, cell_placement, site_instance, property, phys_net}
use Rattle.ix_message.specs.Phys.{phys_netlist}
use Rattle.ix_message_write.specs.Table.{name_text}
use Rattle.ix_rec.specs.declared.forest.Branch.{Branch}
use Rattle.ix_rec.specs.declared.phys.PinMapping.{PinMapping}
use Rattle.ix_rec.specs.declared.phys.CellPlacement.{CellPlacement}
use Rattle.ix_rec.specs.declared.phys.SiteInstance.{SiteInstance}
use Rattle.ix_rec.specs.declared.phys.Property.{Property}
use Rattle.ix_rec.specs.declared.phys.PhysNet.{PhysNet}
use Rattle.ix_rec.specs.declared.phys.Segment.{Segment}
use Rattle.ix_rec.specs.declared.phys.Phys.{Phys}
use Rattle.ix_rec.specs.declared.phys.NetType.{NetType}
use Rattle.ix_rec.specs.declared.phys.NetType.TheVariants.{Signal, Gnd, Vcc}
use Rattle.ix_rec.specs.declared.phys.BranchKind.{BranchKind}
use Rattle.ix_rec.specs.declared.phys.BranchKind.TheVariants.{BelPin, SitePin, Pip, SitePip}
use Rattle.ix_phys_write.specs.Trees.{trees_at}

abbrev pub named : List Text → ℕ → Datum
named names id = the_text (name_text names id)

abbrev pub pin_mapping_record : List Text → PinMapping → Value Datum pin_mapping
pin_mapping_record names p = (
  named names p.cell_pin ∷ named names p.bel ∷ named names p.bel_pin
      ∷ [],
  tt,
)

abbrev pub placement_record : List Text → CellPlacement → Value Datum cell_placement
placement_record names p = (
  named names p.cell_name ∷ named names p.ty ∷ named names p.site ∷ named names p.bel ∷ [],
  (map (pin_mapping_record names) p.pin_map, tt),
)

abbrev pub site_instance_record : List Text → SiteInstance → Value Datum site_instance
site_instance_record names i = (named names i.site ∷ named names i.ty ∷ [], tt)

abbrev pub property_record : List Text → Property → Value Datum property
property_record names p = (named names p.key ∷ named names p.value ∷ [], tt)

abbrev pub kind_number : BranchKind → ℕ
kind_number BelPin = 0
kind_number SitePin = 1
kind_number Pip = 2
kind_number SitePip = 3

-- a site pin's third name isn't looked at, and written as 0
abbrev pub third : List Text → BranchKind → ℕ → Datum
third names SitePin id = the_number 0
third names _ id = named names id

abbrev pub flag_number : Bool → ℕ
flag_number b = if b then 1 else 0

abbrev pub segment_row : List Text → Segment → List Datum
segment_row names s =
    the_number (kind_number s.kind) ∷ named names s.first ∷ named names s.second
    ∷ third names s.kind s.third ∷ the_number (flag_number s.forward) ∷ []

abbrev pub type_number : NetType → ℕ
type_number Signal = 0
type_number Gnd = 1
type_number Vcc = 2

abbrev pub net_record : List Text → PhysNet → Value Datum phys_net
net_record names n = (
  named names n.name ∷ the_number (type_number n.ty) ∷ [],
  (
    branches_map (segment_row names) (trees_at 0 n.sources),
    (branches_map (segment_row names) (trees_at 0 n.stubs), tt),
  ),
)

abbrev pub phys_record : List Text → Phys → Value Datum phys_netlist
phys_record names p = (
  [],
  (
    name_text names p.part,
    (
      map (placement_record names) p.placements,
      (
        map (net_record names) p.nets,
        (
          map (site_instance_record names) p.site_insts,
          (map (property_record names) p.properties, tt),
        ),
      ),
    ),
  ),
)

-- The names in a record are names of the run.

abbrev pub IsName : List Text → ℕ → Type 0
IsName names id = id < length names

pub record IsMappingNamed (names : List Text) (p : PinMapping) : Type 0 where
  pub cell_pin : IsName names p.cell_pin
  pub bel : IsName names p.bel
  pub bel_pin : IsName names p.bel_pin

pub record IsPlacementNamed (names : List Text) (p : CellPlacement) : Type 0 where
  pub cell_name : IsName names p.cell_name
  pub ty : IsName names p.ty
  pub site : IsName names p.site
  pub bel : IsName names p.bel
  pub pin_map : All (IsMappingNamed names) p.pin_map

pub record IsInstanceNamed (names : List Text) (i : SiteInstance) : Type 0 where
  pub site : IsName names i.site
  pub ty : IsName names i.ty

pub record IsPropertyNamed (names : List Text) (p : Property) : Type 0 where
  pub key : IsName names p.key
  pub value : IsName names p.value

pub record IsSegmentNamed (names : List Text) (b : Branch Segment) : Type 0 where
  pub first : IsName names b.item.first
  pub second : IsName names b.item.second
  pub third : IsName names b.item.third

pub record IsNetNamed (names : List Text) (n : PhysNet) : Type 0 where
  pub name : IsName names n.name
  pub sources : All (IsSegmentNamed names) n.sources
  pub stubs : All (IsSegmentNamed names) n.stubs

pub record IsPhysNamed (names : List Text) (p : Phys) : Type 0 where
  pub part : IsName names p.part
  pub placements : All (IsPlacementNamed names) p.placements
  pub nets : All (IsNetNamed names) p.nets
  pub site_insts : All (IsInstanceNamed names) p.site_insts
  pub properties : All (IsPropertyNamed names) p.properties
