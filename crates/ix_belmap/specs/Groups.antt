-- The groups of cells that are packed together.
use Rattle.std.specs.Prelude.{◌≡◌, ℕ, ◌<◌, ◌-◌, List, [], ◌∷◌, ◌++◌, length, map, take, slice_get}
use Rattle.std.specs.Prelude.{Bool, false, not, ◌&&◌, ◌||◌, nat_eq, nat_lt, if◌then◌else◌}
use Rattle.std.specs.Prelude.{Option, Some, None, is_some, option_map, option_and_then, unwrap_or}
use Rattle.std.specs.FinMap.{get, entries}
use Rattle.std.specs.List.{count_by, filter, filter_map, flat_map, list_all, list_any}
use Rattle.std.specs.List.{range_with_len}
use Rattle.ix_num.specs.declared.resource.NetRef.{NetRef}
use Rattle.ix_num.specs.declared.resource.NetRef.TheVariants.{Gnd, Vcc, Signal}
use Rattle.ix_rec.specs.declared.device.DeviceRec.{DeviceRec}
use Rattle.ix_rec.specs.declared.device.SiteType.{SiteType}
use Rattle.ix_rec.specs.declared.flow.Flat.{Flat}
use Rattle.ix_belmap.specs.Counts.{bels_in_type}

-- A cell's nets.

abbrev pub signal : NetRef → Option ℕ
signal Gnd = None
signal Vcc = None
signal (Signal net) = Some net

-- the signal net of a pin of this cell, where it is on one
abbrev pub signal_at : (cell : ℕ) → (ℕ × ℕ) × NetRef → Option ℕ
signal_at cell pin = if nat_eq pin.0.0 cell then signal pin.1 else None

-- the signal nets of a cell's pins, by pin
unfoldable pub signals_of : Flat → (cell : ℕ) → List ℕ
signals_of flat cell = filter_map (signal_at cell) (entries flat.pins)

unfoldable pub is_on : Flat → (cell net : ℕ) → Bool
is_on flat cell net = list_any (nat_eq net) (signals_of flat cell)

-- A port cell's signal net. It has one pin; where it had several, the first of those that are on
-- signal nets would count, pins being in the order of their names' numbers.
unfoldable pub net_of_port : Flat → (port : ℕ) → Option ℕ
net_of_port flat port = slice_get (signals_of flat port) 0

-- Types that go together.

-- a site type admits a cell type by one of its BELs
abbrev pub is_home : DeviceRec → (ty : ℕ) → SiteType → Bool
is_home rec ty t = not (nat_eq (bels_in_type rec ty t) 0)

-- only site types that also admit the one type admit the other
unfoldable pub stays_with : DeviceRec → (port_type ty : ℕ) → Bool
stays_with rec port_type ty =
    list_all (λ t. not (is_home rec ty t) || is_home rec port_type t) rec.site_type_list

abbrev pub type_of : Flat → (cell : ℕ) → Option ℕ
type_of flat cell = option_map (λ c. c.ty) (slice_get flat.cells cell)

abbrev pub types_go : DeviceRec → Flat → (port cell : ℕ) → Bool
types_go rec flat port cell = unwrap_or (option_and_then
    (λ p. option_map (λ c. stays_with rec p c) (type_of flat cell)) (type_of flat port)) false

abbrev pub is_on_net_of : Flat → (port cell : ℕ) → Bool
is_on_net_of flat port cell =
    unwrap_or (option_map (is_on flat cell) (net_of_port flat port)) false

-- Groups.

abbrev pub has_cell : List (List ℕ) → (cell : ℕ) → Bool
has_cell groups cell = list_any (list_any (nat_eq cell)) groups

-- the cells that aren't port cells, in flat order
abbrev pub inner_cells : Flat → List ℕ
inner_cells flat = range_with_len flat.ports (length flat.cells - flat.ports)

-- the cell is on the port cell's signal net, its type stays with the port cell's, and it is in no
-- earlier group
abbrev pub may_join : DeviceRec → Flat → List (List ℕ) → (port cell : ℕ) → Bool
may_join rec flat earlier port cell =
    is_on_net_of flat port cell && types_go rec flat port cell && not (has_cell earlier cell)

-- a port cell with the first cells, at most eight, that may join it
abbrev pub group_of_port : DeviceRec → Flat → List (List ℕ) → (port : ℕ) → List ℕ
group_of_port rec flat earlier port =
    port ∷ take 8 (filter (may_join rec flat earlier port) (inner_cells flat))

-- the groups of the port cells, in flat order, each by those before it
pub record AreOfPorts (rec : DeviceRec) (flat : Flat) (groups : List (List ℕ)) : Type 0 where
  pub count : length groups ≡ flat.ports
  pub each : (port : ℕ) → port < flat.ports
      → slice_get groups port ≡ Some (group_of_port rec flat (take port groups) port)

-- the group of a fixed port cell
abbrev pub is_fixed : Flat → List ℕ → Bool
is_fixed flat [] = false
is_fixed flat (port ∷ members) = is_some (get flat.fixed port)

-- every cell that is in none of these groups, alone
abbrev pub alone : Flat → List (List ℕ) → List (List ℕ)
alone flat groups =
    map (λ cell. cell ∷ []) (filter (λ cell. not (has_cell groups cell)) (inner_cells flat))

-- fixed port groups, other port groups, the rest in flat order
pub record AreGroups (rec : DeviceRec) (flat : Flat) (groups : List (List ℕ)) : Type 0 where
  pub of_ports : List (List ℕ)
  pub are_of_ports : AreOfPorts rec flat of_ports
  pub order : groups ≡ filter (is_fixed flat) of_ports
      ++ filter (λ group. not (is_fixed flat group)) of_ports ++ alone flat of_ports

-- how often a cell is in the groups
abbrev pub times_in : List (List ℕ) → (cell : ℕ) → ℕ
times_in groups cell = count_by (nat_eq cell) (flat_map (λ group. group) groups)

-- each cell of the design is in one group, once, and nothing else is
abbrev pub HaveEachOnce : Flat → List (List ℕ) → Type 0
HaveEachOnce flat groups = (cell : ℕ)
    → times_in groups cell ≡ (if nat_lt cell (length flat.cells) then 1 else 0)
