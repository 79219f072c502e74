-- The instance that an instance is in, and its rows.
use Rattle.std.proofs.Common.{◌≡◌, ◌<◌, ap, sym, ◌∙◌, ℕ, List, [], slice_get, Some, arith}
use Rattle.std.proofs.Common.{length, get_or, refl, nat_eq}
use Rattle.std.proofs.lemmas.List.Quantifiers.{position-Some}
use Rattle.std.proofs.lemmas.Option.{same_Some, slice_get-get_or, slice_get_within, none-some}
use Rattle.ix_rec.specs.declared.device.DeviceRec.{DeviceRec}
use Rattle.ix_rec.specs.declared.netlist.Cell.{Cell}
use Rattle.ix_rec.specs.declared.netlist.NetlistRec.{NetlistRec}
use Rattle.ix_hierarchy.specs.declared.instance.Instance.{Instance}
use Rattle.ix_hierarchy.specs.declared.kind.Kind.{Kind}
use Rattle.ix_hierarchy.specs.declared.kind.Kind.TheVariants.{Inside, Constant, Plain, Unknown}
use Rattle.ix_hierarchy.specs.Hierarchy.{Path, inside}
use Rattle.ix_hierarchy.specs.Lists.{IsKind, first_cell}
use Rattle.ix_bit_rows.specs.Table.{RowTable, IsEndOf, IsStartOf}
use Rattle.ix_pin_rows.specs.PinRows.{AreListed, ArePinRows}
use Rattle.ix_pin_rows.proofs.Reaching.{declared, first_none, is_inside, listed_reached}
use Rattle.ix_pin_rows.proofs.Cutting.{between}

abbrev pub zero_instance : Instance
zero_instance = record { number = 0; declaration = 0; parent = 0; place = 0; first_net = 0 }

-- the parent is there
pub parent_there : (design : NetlistRec) (device : DeviceRec) (kinds : List Kind)
    (outer : RowTable) (all : List Instance) (paths : List Path) (nets i : ℕ)
    → AreListed design device kinds outer all paths nets → 0 < i → i < length all
    → (get_or all i zero_instance).parent < length all
parent_there design device kinds outer all paths nets i are below lt =
    let less : (get_or all i zero_instance).parent < i =
    are.instances.parents i (get_or all i zero_instance) below
    (slice_get-get_or all i zero_instance lt) in omega arith

-- its kind is there
pub kind_there : (design : NetlistRec) (device : DeviceRec) (kinds : List Kind)
    (outer : RowTable) (all : List Instance) (paths : List Path) (nets i : ℕ) (one : Instance)
    → AreListed design device kinds outer all paths nets → slice_get all i ≡ Some one
    → one.declaration < length kinds
kind_there design device kinds outer all paths nets i one are is =
    let less : one.declaration < length design.cell_decls =
    declared are.names design all paths nets i one are.fits are.instances is in
    let many : length kinds ≡ length design.cell_decls = are.are_kinds.many in omega arith

-- what has an inside is of that kind
pub must_be_inside : (device : DeviceRec) (design : NetlistRec) (declaration : ℕ) (kind : Kind)
    (cell : Cell) → IsKind device design declaration kind → inside design declaration ≡ Some cell
    → (place : ℕ) × (kind ≡ Inside place)
must_be_inside device design declaration (Inside place) cell is h = (place, refl)
must_be_inside device design declaration (Constant constant) cell is h =
    absurd (none-some cell (sym (first_none design declaration is.1.0) ∙ h))
must_be_inside device design declaration Plain cell is h =
    absurd (none-some cell (sym (first_none design declaration is.1.0) ∙ h))
must_be_inside device design declaration Unknown cell is h =
    absurd (none-some cell (sym (first_none design declaration is.1.0) ∙ h))

-- the cell of an inside has rows
pub start_there : (design : NetlistRec) (device : DeviceRec) (kinds : List Kind)
    (outer : RowTable) (all : List Instance) (paths : List Path) (nets declaration place : ℕ)
    → AreListed design device kinds outer all paths nets
    → slice_get kinds declaration ≡ Some (Inside place) → place < length outer.starts
start_there design device kinds outer all paths nets declaration place are h =
    let none : Cell = record { index = 0; insts = []; nets = [] } in
    let first : first_cell design declaration ≡ Some place =
    are.are_kinds.each declaration (Inside place) h in
    let less : place < length design.cell_list =
    (position-Some (λ (c : Cell). nat_eq c.index declaration) design.cell_list place none first).0
    in
    let many : length outer.starts ≡ length design.cell_list = are.rows.starts_many in omega arith

-- the rows between both cuts
pub rows_found : (design : NetlistRec) (device : DeviceRec) (kinds : List Kind)
    (outer : RowTable) (all : List Instance) (paths : List Path) (nets i : ℕ)
    (one parent : Instance) (cell : Cell) (place start end : ℕ)
    → AreListed design device kinds outer all paths nets → slice_get all i ≡ Some one
    → slice_get all one.parent ≡ Some parent → inside design parent.declaration ≡ Some cell
    → slice_get kinds parent.declaration ≡ Some (Inside place)
    → IsStartOf outer place one.number start → IsEndOf outer place one.number start end
    → ArePinRows outer cell one.number start end
rows_found design device kinds outer all paths nets i one parent cell place start end are is up
    within kind s e =
    let first : first_cell design parent.declaration ≡ Some place =
    are.are_kinds.each parent.declaration (Inside place) kind in
    let inner = is_inside design parent.declaration cell within in
    let same : inner.place ≡ place = same_Some inner.place place (sym inner.first ∙ first) in
    let cell_is : slice_get design.cell_list place ≡ Some cell =
    ap (slice_get design.cell_list) (sym same) ∙ inner.cell_is in
    let lt : place < length outer.starts =
    start_there design device kinds outer all paths nets parent.declaration place are kind in
    let starts : length outer.starts ≡ length design.cell_list = are.rows.starts_many in
    let ends : length outer.ends ≡ length design.cell_list = are.rows.ends_many in
    let lt_end : place < length outer.ends = omega arith in
    let start_is = slice_get-get_or outer.starts place 0 lt in
    let end_is = slice_get-get_or outer.ends place 0 lt_end in
    let many : length paths ≡ length all = are.instances.many in
    let there : one.parent < length all = slice_get_within all one.parent parent up in
    let path_is : slice_get paths one.parent ≡ Some (get_or paths one.parent []) =
    slice_get-get_or paths one.parent [] (omega arith) in
    between outer place cell one.number start end
    (are.rows.ordered place (get_or outer.starts place 0) (get_or outer.ends place 0) start_is
    end_is).1
    (are.rows.each parent.declaration place (get_or outer.starts place 0)
    (get_or outer.ends place 0) cell
    (listed_reached design all paths nets one.parent (get_or paths one.parent []) parent
    are.instances path_is up) first cell_is start_is end_is) s e
