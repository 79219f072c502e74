-- The net that a bit of the top is on.
use Rattle.std.proofs.Common.{◌≡◌, ◌<◌, ◌+◌, ◌-◌, ap, refl, sym, ◌∙◌, ℕ, List, []}
use Rattle.std.proofs.Common.{Some, slice_get, arith, length, get_or, true, take, drop}
use Rattle.std.proofs.Common.{nat_eq}
use Rattle.std.proofs.lemmas.List.Quantifiers.{position-Some}
use Rattle.std.proofs.lemmas.Option.{same_Some, slice_get-get_or, slice_get_within}
use Rattle.ix_rec.specs.declared.device.DeviceRec.{DeviceRec}
use Rattle.ix_rec.specs.declared.netlist.Cell.{Cell}
use Rattle.ix_rec.specs.declared.netlist.Net.{Net}
use Rattle.ix_rec.specs.declared.netlist.NetlistRec.{NetlistRec}
use Rattle.ix_rec.specs.declared.netlist.Port.{Port}
use Rattle.ix_hierarchy.specs.declared.instance.Instance.{Instance}
use Rattle.ix_hierarchy.specs.declared.kind.Kind.{Kind}
use Rattle.ix_hierarchy.specs.declared.kind.Kind.TheVariants.{Inside}
use Rattle.ix_hierarchy.specs.Hierarchy.{Path, PortNumber, inside, inside_at, reached}
use Rattle.ix_hierarchy.specs.Nets.{Occurrence, Occurs, names_own}
use Rattle.ix_hierarchy.specs.Pins.{IsTopBit, IsTopPinOn, TopPin}
use Rattle.ix_hierarchy.specs.Lists.{AreAllRows, IsNumber, IsOwnRow, first_cell}
use Rattle.ix_bit_rows.specs.Table.{RowTable, IsNetOf, IsOnNone, end_in, own_row, start_in}
use Rattle.ix_joined.specs.Joining.{IsPinOf}
use Rattle.ix_top_bits.specs.Given.{AreGiven}
use Rattle.ix_top_bits.proofs.Cells.{first_some, from_part, in_part, must_be_inside}

-- the top's own inside
inside_top : (design : NetlistRec) → inside_at design [] ≡ inside design design.top_inst.cell
unfolding reached
inside_top design = refl

-- the top's cell and its rows
pub record IsTopCell (design : NetlistRec) (own : RowTable) (place : ℕ) : Type 0 where
  pub cell : Cell
  pub inside_is : inside_at design [] ≡ Some cell
  pub there : place < length own.starts
  pub rows : AreAllRows (IsOwnRow cell)
      (take (end_in own place - start_in own place) (drop (start_in own place) own.rows))

pub starts_there : (design : NetlistRec) (device : DeviceRec) (kinds : List Kind)
    (own : RowTable) (all : List Instance) (paths : List Path) (firsts : List ℕ) (place : ℕ)
    → AreGiven design device kinds own all paths firsts
    → slice_get kinds design.top_inst.cell ≡ Some (Inside place) → place < length own.starts
starts_there design device kinds own all paths firsts place are h =
    let none : Cell = record { index = 0; insts = []; nets = [] } in
    let first : first_cell design design.top_inst.cell ≡ Some place =
    are.are_kinds.each design.top_inst.cell (Inside place) h in
    let less : place < length design.cell_list =
    (position-Some (λ (c : Cell). nat_eq c.index design.top_inst.cell) design.cell_list place none
    first).0 in
    let many : length own.starts ≡ length design.cell_list = are.rows.starts_many in omega arith

pub top_cell : (design : NetlistRec) (device : DeviceRec) (kinds : List Kind)
    (own : RowTable) (all : List Instance) (paths : List Path) (firsts : List ℕ) (place : ℕ)
    → AreGiven design device kinds own all paths firsts
    → slice_get kinds design.top_inst.cell ≡ Some (Inside place) → IsTopCell design own place
top_cell design device kinds own all paths firsts place are h =
    let top = design.top_inst.cell in
    let first : first_cell design top ≡ Some place = are.are_kinds.each top (Inside place) h in
    let lt : place < length own.starts =
    starts_there design device kinds own all paths firsts place are h in
    let starts : length own.starts ≡ length design.cell_list = are.rows.starts_many in
    let ends : length own.ends ≡ length design.cell_list = are.rows.ends_many in
    let lt_end : place < length own.ends = omega arith in
    let lt_cell : place < length design.cell_list = omega arith in
    let cell : Cell = get_or design.cell_list place record { index = 0; insts = []; nets = [] } in
    let cell_is : slice_get design.cell_list place ≡ Some cell =
    slice_get-get_or design.cell_list place record { index = 0; insts = []; nets = [] } lt_cell in
    record {
      cell = cell;
      inside_is = inside_top design ∙ first_some design top place first ∙ cell_is;
      there = lt;
      rows = are.rows.each top place (get_or own.starts place 0) (get_or own.ends place 0) cell
          ([], refl) first cell_is (slice_get-get_or own.starts place 0 lt)
          (slice_get-get_or own.ends place 0 lt_end);
    }

-- a row's net names the bit
pub is_on : (design : NetlistRec) (own : RowTable) (place p index net : ℕ)
    (number : PortNumber) (port : Port) → IsTopCell design own place
    → IsNetOf own place number index net → IsTopBit design p index number port
    → IsTopPinOn design p index record { path = []; net = net }
is_on design own place p index net number port top row bit =
    let at = row.names in
    let is = top.rows.each (at.place - start_in own place) (own_row number index net)
    (in_part own.rows (start_in own place) (end_in own place) at.place (own_row number index net)
    at.from at.to at.row_is) in
    record {
      number = number;
      port = port;
      bit = bit;
      top = refl;
      cell = top.cell;
      net = is.1.0;
      occurs = record { inside = top.inside_is; net_is = is.1.1 };
      named = is.1.2;
    }

-- no row, no net
pub is_on_none : (design : NetlistRec) (own : RowTable) (place p index : ℕ)
    (number : PortNumber) (port : Port) (at : Occurrence) → IsTopCell design own place
    → IsOnNone own place number index → IsTopBit design p index number port
    → IsTopPinOn design p index at → ⊥
is_on_none design own place p index number port at top none bit on =
    let numbers : on.number ≡ number = same_Some on.number number (sym on.bit.which ∙ bit.which) in
    let cells : on.cell ≡ top.cell = same_Some on.cell top.cell (sym on.occurs.inside
    ∙ ap (inside_at design) on.top ∙ top.inside_is) in
    let net_is : slice_get top.cell.nets at.net ≡ Some on.net =
    ap (λ (c : Cell). slice_get c.nets at.net) (sym cells) ∙ on.occurs.net_is in
    let named : names_own on.net record { port = number; index = index } ≡ true =
    ap (λ n. names_own on.net record { port = n; index = index }) (sym numbers) ∙ on.named in
    let found = top.rows.all (own_row number index at.net) (refl, (on.net, net_is, named)) in
    let there = from_part own.rows (start_in own place) (end_in own place) found.0
    (own_row number index at.net) found.1 in
    none at.net (record {
      place = start_in own place + found.0;
      from = omega arith;
      to = there.0;
      row_is = there.1;
    })

-- an occurrence of the top's has the number of its net
pub top_number : (design : NetlistRec) (device : DeviceRec) (kinds : List Kind)
    (own : RowTable) (all : List Instance) (paths : List Path) (firsts : List ℕ) (net : ℕ)
    (cell : Cell) (of_net : Net) → AreGiven design device kinds own all paths firsts
    → Occurs design record { path = []; net = net } cell of_net
    → IsNumber design all paths record { path = []; net = net } net
top_number design device kinds own all paths firsts net cell of_net are occurs =
    let many : length paths ≡ length all = are.are_instances.many in
    let some : 0 < length paths = slice_get_within paths 0 [] are.are_instances.top in
    let none : Instance =
    record { number = 0; declaration = 0; parent = 0; place = 0; first_net = 0 } in
    let one_is : slice_get all 0 ≡ Some (get_or all 0 none) =
    slice_get-get_or all 0 none (omega arith) in
    let first : (get_or all 0 none).first_net ≡ 0 =
    are.are_instances.first_at (get_or all 0 none) one_is in
    record {
      cell = cell;
      net = of_net;
      occurs = occurs;
      instance = 0;
      path_is = are.are_instances.top;
      one = get_or all 0 none;
      one_is = one_is;
      number_is = omega arith;
    }

pub is_pin : (design : NetlistRec) (device : DeviceRec) (kinds : List Kind)
    (own : RowTable) (all : List Instance) (paths : List Path) (firsts : List ℕ) (net p index : ℕ)
    → AreGiven design device kinds own all paths firsts
    → IsTopPinOn design p index record { path = []; net = net }
    → IsPinOf design all paths firsts (TopPin p index) (get_or firsts net 0)
is_pin design device kinds own all paths firsts net p index are on =
    let number = top_number design device kinds own all paths firsts net on.cell on.net are
    on.occurs in
    record {
      at = record { path = []; net = net };
      on = on;
      number = net;
      is_number = number;
      first_is = slice_get-get_or firsts net 0
          (are.numbered.below record { path = []; net = net } net number);
    }

-- without an inside the top has no nets
pub no_net : (design : NetlistRec) (device : DeviceRec) (kinds : List Kind)
    (own : RowTable) (all : List Instance) (paths : List Path) (firsts : List ℕ) (kind : Kind)
    (p index : ℕ) (at : Occurrence) → AreGiven design device kinds own all paths firsts
    → slice_get kinds design.top_inst.cell ≡ Some kind → IsTopPinOn design p index at
    → (place : ℕ) × (kind ≡ Inside place)
no_net design device kinds own all paths firsts kind p index at are h on =
    must_be_inside device design design.top_inst.cell kind on.cell
    (are.are_kinds.each design.top_inst.cell kind h)
    (sym (inside_top design) ∙ ap (inside_at design) (sym on.top) ∙ on.occurs.inside)

-- a row's net is among the numbers
pub row_within : (design : NetlistRec) (device : DeviceRec) (kinds : List Kind)
    (own : RowTable) (all : List Instance) (paths : List Path) (firsts : List ℕ)
    (place number index net : ℕ) → AreGiven design device kinds own all paths firsts
    → IsTopCell design own place → IsNetOf own place number index net → net < length firsts
row_within design device kinds own all paths firsts place number index net are top row =
    let at = row.names in
    let is = top.rows.each (at.place - start_in own place) (own_row number index net)
    (in_part own.rows (start_in own place) (end_in own place) at.place (own_row number index net)
    at.from at.to at.row_is) in
    are.numbered.below record { path = []; net = net } net
    (top_number design device kinds own all paths firsts net top.cell is.1.0 are
    (record { inside = top.inside_is; net_is = is.1.1 }))

-- the top's kind
pub kind_is : (design : NetlistRec) (device : DeviceRec) (kinds : List Kind)
    (own : RowTable) (all : List Instance) (paths : List Path) (firsts : List ℕ) (kind : Kind)
    → AreGiven design device kinds own all paths firsts
    → get_or kinds design.top_inst.cell (Inside 0) ≡ kind
    → slice_get kinds design.top_inst.cell ≡ Some kind
kind_is design device kinds own all paths firsts kind are h =
    let less : design.top_inst.cell < length design.cell_decls = are.fits.top.cell in
    let many : length kinds ≡ length design.cell_decls = are.are_kinds.many in
    slice_get-get_or kinds design.top_inst.cell (Inside 0) (omega arith) ∙ ap Some h
