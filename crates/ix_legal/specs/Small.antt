-- A small device, and two netlists on it: what the rules say of them is proved. The device has a
-- site of each of two types and one node. The one net is driven by a cell on the first site and
-- ends at a cell on the second.
use Rattle.std.specs.Prelude.{List, [], ◌∷◌, None, false, codes}
use Rattle.ix_message.specs.Shape.{Text}
use Rattle.ix_rec.specs.declared.device.DeviceRec.{DeviceRec}
use Rattle.ix_rec.specs.declared.device.Direction.TheVariants.{Input, Output}
use Rattle.ix_rec.specs.declared.device.Category.TheVariants.{Logic, SitePort}
use Rattle.ix_rec.specs.declared.device.Inversion.TheVariants.{NonInverting}
use Rattle.ix_rec.specs.declared.device.SiteType.{SiteType}
use Rattle.ix_rec.specs.declared.device.TileType.{TileType}
use Rattle.ix_rec.specs.declared.device.CellBelMapping.{CellBelMapping}
use Rattle.ix_rec.specs.declared.phys.Phys.{Phys}
use Rattle.ix_rec.specs.declared.phys.CellPlacement.{CellPlacement}
use Rattle.ix_rec.specs.declared.phys.PhysNet.{PhysNet}
use Rattle.ix_rec.specs.declared.phys.NetType.TheVariants.{Signal}
use Rattle.ix_rec.specs.declared.phys.Segment.{Segment}
use Rattle.ix_rec.specs.declared.phys.BranchKind.TheVariants.{BelPin, SitePin}

abbrev pub names : List Text
names = codes "SRC" ∷ codes "SNK" ∷ codes "OB" ∷ codes "O" ∷ codes "IB" ∷ codes "I" ∷ codes "s0"
    ∷ codes "t0" ∷ codes "M0" ∷ codes "S0" ∷ codes "T0" ∷ codes "DRV" ∷ codes "LOAD" ∷ codes "d0"
    ∷ codes "e0" ∷ codes "n0" ∷ []

-- SRC: the pin O of the BEL OB, and the output site pin O, on one wire
abbrev pub source_type : SiteType
source_type = record {
  name = 0;
  bel_pins = record { name = 3; dir = Output; bel = 2 } ∷ record { name = 3; dir = Input; bel = 3 }
      ∷ [];
  pins = record { name = 3; dir = Output; belpin = 1 } ∷ [];
  bels = record { name = 2; category = Logic; inversion = NonInverting }
      ∷ record { name = 3; category = SitePort; inversion = NonInverting } ∷ [];
  site_pips = [];
  site_wires = record { name = 8; pins = 0 ∷ 1 ∷ [] } ∷ [];
}

-- SNK: the input site pin I, and the pin I of the BEL IB, on one wire
abbrev pub sink_type : SiteType
sink_type = record {
  name = 1;
  bel_pins = record { name = 5; dir = Input; bel = 4 } ∷ record { name = 5; dir = Output; bel = 5 }
      ∷ [];
  pins = record { name = 5; dir = Input; belpin = 1 } ∷ [];
  bels = record { name = 4; category = Logic; inversion = NonInverting }
      ∷ record { name = 5; category = SitePort; inversion = NonInverting } ∷ [];
  site_pips = [];
  site_wires = record { name = 8; pins = 0 ∷ 1 ∷ [] } ∷ [];
}

-- the two sites' pins are on the wires S0 and T0
abbrev pub tile_type : TileType
tile_type = record {
  name = 8;
  site_types = record { primary_type = 0; primary_pins_to_tile_wires = 9 ∷ [] }
      ∷ record { primary_type = 1; primary_pins_to_tile_wires = 10 ∷ [] } ∷ [];
  wires = 9 ∷ 10 ∷ [];
  pips = [];
  constants = [];
}

-- DRV has O on OB, LOAD has I on IB
abbrev pub cell_types : List CellBelMapping
cell_types = record {
  cell = 11;
  common_pins = record {
    site_types = record { site_type = 0; bels = 2 ∷ [] } ∷ [];
    pins = record { cell_pin = 3; bel_pin = 3 } ∷ [];
  } ∷ [];
} ∷ record {
  cell = 12;
  common_pins = record {
    site_types = record { site_type = 1; bels = 4 ∷ [] } ∷ [];
    pins = record { cell_pin = 5; bel_pin = 5 } ∷ [];
  } ∷ [];
} ∷ []

-- one tile with the sites s0 and t0, and one node of its wires S0 and T0
abbrev pub device : DeviceRec
device = record {
  name = 8;
  site_type_list = source_type ∷ sink_type ∷ [];
  tile_type_list = tile_type ∷ [];
  tile_list = record {
    name = 8;
    ty = 0;
    row = 0;
    col = 0;
    sites = record { name = 6; ty = 0 } ∷ record { name = 7; ty = 1 } ∷ [];
  } ∷ [];
  wires = record { tile = 8; wire = 9 } ∷ record { tile = 8; wire = 10 } ∷ [];
  nodes = record { wires = 0 ∷ 1 ∷ [] } ∷ [];
  cell_bel_map = cell_types;
  packages = [];
  constants = None;
  lut_definitions = record { lut_cells = []; lut_elements = [] };
}

-- BEL pin s0/OB/O, site pin s0/O, site pin t0/I, BEL pin t0/IB/I
abbrev pub driver : Segment
driver = record { kind = BelPin; forward = false; first = 6; second = 2; third = 3 }

abbrev pub leaves : Segment
leaves = record { kind = SitePin; forward = false; first = 6; second = 3; third = 3 }

abbrev pub enters : Segment
enters = record { kind = SitePin; forward = false; first = 7; second = 5; third = 5 }

abbrev pub sink : Segment
sink = record { kind = BelPin; forward = false; first = 7; second = 4; third = 5 }

-- the net as one chain
abbrev pub routed : PhysNet
routed = record {
  name = 15;
  ty = Signal;
  sources = record { depth = 0; item = driver } ∷ record { depth = 1; item = leaves }
      ∷ record { depth = 2; item = enters } ∷ record { depth = 3; item = sink } ∷ [];
  stubs = [];
}

-- the net with its second half as a stub
abbrev pub placed : PhysNet
placed = record {
  name = 15;
  ty = Signal;
  sources = record { depth = 0; item = driver } ∷ record { depth = 1; item = leaves } ∷ [];
  stubs = record { depth = 0; item = enters } ∷ record { depth = 1; item = sink } ∷ [];
}

-- d0 of type DRV on s0, e0 of type LOAD on t0, and the net n0
abbrev pub first_cell : CellPlacement
first_cell = record {
  cell_name = 13;
  ty = 11;
  site = 6;
  bel = 2;
  pin_map = record { cell_pin = 3; bel = 2; bel_pin = 3 } ∷ [];
}

abbrev pub second_cell : CellPlacement
second_cell = record {
  cell_name = 14;
  ty = 12;
  site = 7;
  bel = 4;
  pin_map = record { cell_pin = 5; bel = 4; bel_pin = 5 } ∷ [];
}

abbrev pub with_net : PhysNet → Phys
with_net net = record {
  part = 8;
  placements = first_cell ∷ second_cell ∷ [];
  nets = net ∷ [];
  site_insts = record { site = 6; ty = 0 } ∷ record { site = 7; ty = 1 } ∷ [];
  properties = [];
}
