-- What is known while cells are grouped.
use Rattle.std.specs.Prelude.{◌≡◌, ◌<◌, ℕ, List, [], ◌∷◌, ◌++◌, ◌-◌, ◌≤◌, if◌then◌else◌, length}
use Rattle.std.specs.Prelude.{map, take, slice_get, slice_index_or, Bool, false, not, ◌&&◌, ◌||◌}
use Rattle.std.specs.Prelude.{nat_eq, nat_lt, Option, Some, None, option_map, unwrap_or, IfSome}
use Rattle.std.specs.Prelude.{Vec}
use Rattle.std.specs.Global.{Global}
use Rattle.std.specs.List.{filter, list_any, AllByRecursion}
use Rattle.ix_keys.specs.Keys.{key}
use Rattle.ix_first.specs.declared.by_key.FirstByKey.{FirstByKey}
use Rattle.ix_first.specs.First.{value_at}
use Rattle.ix_num.specs.declared.resource.NetRef.{NetRef}
use Rattle.ix_num.specs.declared.resource.NetRef.TheVariants.{Gnd, Vcc, Signal}
use Rattle.ix_rec.specs.declared.device.DeviceRec.{DeviceRec}
use Rattle.ix_rec.specs.declared.flow.Flat.{Flat}
use Rattle.ix_belmap.specs.declared.marks.Passed.{Passed}
use Rattle.ix_belmap.specs.declared.marks.Marks.{Marks}
use Rattle.ix_belmap.specs.Groups.{is_on, is_on_net_of, stays_with, type_of, types_go, inner_cells}

-- what the table keeps of two types is so
abbrev pub Knows : DeviceRec → FirstByKey Bool → Type 0
Knows rec known = (port_type ty : ℕ) → IfSome (value_at known (key port_type ty 0))
    (λ stays. stays ≡ stays_with rec port_type ty)

-- whether a cell is marked as being in a group
abbrev pub is_marked : List Bool → (cell : ℕ) → Bool
is_marked marks cell = slice_index_or marks cell false

-- the cell's type stays with the port cell's, and the cell isn't marked
abbrev pub is_free_for : DeviceRec → Flat → List Bool → (port_type cell : ℕ) → Bool
is_free_for rec flat marks port_type cell =
    unwrap_or (option_map (stays_with rec port_type) (type_of flat cell)) false
    && not (is_marked marks cell)

-- the cells of a row that may still be taken
abbrev pub free_of : DeviceRec → Flat → List Bool → (port_type : ℕ) → List ℕ → List ℕ
free_of rec flat marks port_type row = filter (is_free_for rec flat marks port_type) row

-- none of the first cells of a row may be taken
abbrev pub IsPassed : DeviceRec → Flat → List Bool → (port_type : ℕ) → List ℕ → (passed : ℕ)
    → Type 0
IsPassed rec flat marks port_type row passed =
    free_of rec flat marks port_type (take passed row) ≡ []

abbrev pub lists_of : List (Vec ℕ Global) → List (List ℕ)
lists_of vecs = map (λ v. v.items) vecs

-- for each signal net the cells on it that aren't port cells, each once, in flat order
pub record AreRows (flat : Flat) (rows : List (List ℕ)) : Type 0 where
  pub count : length rows ≡ length flat.nets
  pub each : (net : ℕ) → net < length flat.nets
      → slice_get rows net ≡ Some (filter (λ cell. is_on flat cell net) (inner_cells flat))

-- each of these is a cell of the design
abbrev pub AreCells : Flat → List ℕ → Type 0
AreCells flat cells = AllByRecursion (λ cell. cell < length flat.cells) cells

-- the last of a list
abbrev pub last_of : List ℕ → Option ℕ
last_of xs = slice_get xs (length xs - 1)

-- a row with a cell behind it, which isn't put there twice
abbrev pub with_cell : List ℕ → ℕ → List ℕ
with_cell row cell =
    if unwrap_or (option_map (nat_eq cell) (last_of row)) false then row else row ++ cell ∷ []

-- a constant net, or one of so many signal nets
abbrev pub IsNetBelow : (count : ℕ) → NetRef → Type 0
IsNetBelow count Gnd = Unit {0}
IsNetBelow count Vcc = Unit {0}
IsNetBelow count (Signal net) = net < count

-- the row of net n, where a cell that has a pin on a net was put into that net's row
abbrev pub with_pin : (ports cell : ℕ) → NetRef → (n : ℕ) → (row : List ℕ) → List ℕ
with_pin ports cell Gnd n row = row
with_pin ports cell Vcc n row = row
with_pin ports cell (Signal net) n row =
    if nat_eq net n && not (nat_lt cell ports) then with_cell row cell else row

-- of each row the cells before the mark for a port cell's type can't be taken any more
abbrev pub IsPassedAt : DeviceRec → Flat → List Bool → List ℕ → Option Passed → Type 0
IsPassedAt rec flat marks row None = Unit {0}
IsPassedAt rec flat marks row (Some passed) =
    (passed.count ≤ length row) × IsPassed rec flat marks passed.port_type row passed.count

pub record AreMarks (rec : DeviceRec) (flat : Flat) (rows : List (List ℕ)) (marks : Marks)
    : Type 0 where
  pub cells : length marks.taken.items ≡ length flat.cells
  pub nets : length marks.passed.items ≡ length flat.nets
  pub passed : (net : ℕ) (row : List ℕ) (at : Option Passed) → slice_get rows net ≡ Some row
      → slice_get marks.passed.items net ≡ Some at → IsPassedAt rec flat marks.taken.items row at
  pub known : Knows rec marks.known

-- the port cell with the first cells, at most eight, that are on its net, stay with it and aren't
-- marked
abbrev pub group_by_marks : DeviceRec → Flat → List Bool → (port : ℕ) → List ℕ
group_by_marks rec flat marks port =
    port ∷ take 8 (filter
    (λ cell. is_on_net_of flat port cell && types_go rec flat port cell
    && not (is_marked marks cell))
    (inner_cells flat))

-- these cells are marked besides
abbrev pub AddsMarks : List ℕ → (before now : List Bool) → Type 0
AddsMarks cells before now = (cell : ℕ)
    → is_marked now cell ≡ (is_marked before cell || list_any (nat_eq cell) cells)
