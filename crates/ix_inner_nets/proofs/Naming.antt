-- Rows of a cell's own bits, and the instances of the others.
use Rattle.std.proofs.Common.{◌≡◌, ◌⊎◌, ◌<◌, ◌≤◌, ◌+◌, ◌-◌, ◌∙◌, ℕ, suc, zero, List, [], ◌∷◌, ◌++◌}
use Rattle.std.proofs.Common.{length}
use Rattle.std.proofs.Common.{Option, Some, None, slice_get, take, drop, sym, ap, subst, refl, inl}
use Rattle.std.proofs.Common.{inr, arith, ◌&&◌}
use Rattle.std.proofs.Common.{true}
use Rattle.std.specs.Prelude.{MatchOption}
use Rattle.std.proofs.lemmas.Bool.{cases_eq}
use Rattle.std.proofs.lemmas.Bool.Decides.{nat_tests}
use Rattle.std.proofs.lemmas.List.{length_push}
use Rattle.std.proofs.lemmas.Option.{slice_get-get_or, same_Some, none-some, slice_get_within}
use Rattle.ix_rec.specs.declared.netlist.Cell.{Cell}
use Rattle.ix_rec.specs.declared.netlist.CellInstance.{CellInstance}
use Rattle.ix_rec.specs.declared.netlist.NetlistRec.{NetlistRec}
use Rattle.ix_rec.specs.declared.netlist.PortInstance.{PortInstance}
use Rattle.ix_rec.specs.declared.netlist.PortOwner.{PortOwner}
use Rattle.ix_rec.specs.declared.netlist.PortOwner.TheVariants.{ExtPort, Inst}
use Rattle.ix_hierarchy.specs.declared.row.Row.{Row}
use Rattle.ix_hierarchy.specs.Hierarchy.{inside}
use Rattle.ix_hierarchy.specs.Fits.{NetlistFits, CellFits, NetFits, PortInstanceFits, IsPortOf}
use Rattle.ix_hierarchy.specs.Fits.{InstanceFits}
use Rattle.ix_hierarchy.specs.Nets.{is_of, same_bit, bit_of}
use Rattle.ix_hierarchy.specs.Broken.{Reaches}
use Rattle.ix_hierarchy.specs.Lists.{AreAllRows, IsOwnRow, IsOuterRow, bit_in, first_cell}
use Rattle.ix_bit_rows.specs.Table.{RowTable, AreRowsIn, IsRowOf, IsNetOf, IsOnNone, own_row}
use Rattle.ix_bit_rows.specs.Table.{start_in, end_in}
use Rattle.ix_inner_nets.specs.Inner.{IsInner, AreInner}
use Rattle.ix_inner_nets.proofs.Parts.{part_in, part_out, any_at, both_parts}
use Rattle.ix_inner_nets.proofs.Declared.{all_at, gets_at, first_some, first_within}

-- the rows of a reached declaration's cell
rows_there : (design : NetlistRec) (own : RowTable) (declaration k : ℕ) (cell : Cell)
    → AreRowsIn design IsOwnRow own → Reaches design design.top_inst.cell declaration
    → first_cell design declaration ≡ Some k → slice_get design.cell_list k ≡ Some cell
    → AreAllRows (IsOwnRow cell)
    (take (end_in own k - start_in own k) (drop (start_in own k) own.rows))
rows_there design own declaration k cell R reached first is =
    let within : k < length design.cell_list = slice_get_within design.cell_list k cell is in
    let s = R.starts_many in
    let e = R.ends_many in
    R.each declaration k (start_in own k) (end_in own k) cell reached first is
    (slice_get-get_or own.starts k 0 (omega arith))
    (slice_get-get_or own.ends k 0 (omega arith))

own_is : (design : NetlistRec) (own : RowTable) (declaration k : ℕ) (cell : Cell) (row : Row)
    → AreRowsIn design IsOwnRow own → Reaches design design.top_inst.cell declaration
    → first_cell design declaration ≡ Some k → slice_get design.cell_list k ≡ Some cell
    → IsRowOf own k row → IsOwnRow cell row
own_is design own declaration k cell row R reached first is I =
    (rows_there design own declaration k cell R reached first is).each (I.place - start_in own k)
    row
    (part_in own.rows (start_in own k) (end_in own k) I.place row I.from I.to I.row_is)

is_own : (design : NetlistRec) (own : RowTable) (declaration k : ℕ) (cell : Cell) (row : Row)
    → AreRowsIn design IsOwnRow own → Reaches design design.top_inst.cell declaration
    → first_cell design declaration ≡ Some k → slice_get design.cell_list k ≡ Some cell
    → IsOwnRow cell row → IsRowOf own k row
is_own design own declaration k cell row R reached first is O =
    let at = (rows_there design own declaration k cell R reached first is).all row O in
    let out = part_out own.rows (start_in own k) (end_in own k) at.0 row at.1 in
    record {
      place = start_in own k + at.0;
      from = omega arith;
      to = out.1;
      row_is = out.0;
    }

-- what a look-up finds is the first net that names the bit
pub inner_found : (design : NetlistRec) (own : RowTable) (declaration k : ℕ) (row : Row)
    (result : Option ℕ) → AreRowsIn design IsOwnRow own
    → Reaches design design.top_inst.cell declaration
    → first_cell design declaration ≡ Some k
    → MatchOption result (IsOnNone own k row.port row.index)
    (λ net. IsNetOf own k row.port row.index net)
    → IsInner design declaration (bit_in row) result
inner_found design own declaration k row None R reached first none = λ net N.
    let cell = gets_at design.cell_list k (first_within design declaration k first) in
    let same : cell.0 ≡ N.cell = same_Some cell.0 N.cell
    (sym (first_some design declaration k first ∙ cell.1) ∙ N.cell_is) in
    none net (is_own design own declaration k N.cell (own_row row.port row.index net) R reached
    first
    (cell.1 ∙ ap Some same) (refl, (N.of_net, N.net_is, N.names)))
inner_found design own declaration k row (Some net) R reached first found =
    let cell = gets_at design.cell_list k (first_within design declaration k first) in
    let in_cell : inside design declaration ≡ Some cell.0 =
    first_some design declaration k first ∙ cell.1 in
    let O : IsOwnRow cell.0 (own_row row.port row.index net) =
    own_is design own declaration k cell.0 (own_row row.port row.index net) R reached first cell.1
    found.names in (
      record {
        cell = cell.0;
        cell_is = in_cell;
        of_net = O.1.0;
        net_is = O.1.1;
        names = O.1.2;
      },
      λ other N.
          let same : cell.0 ≡ N.cell = same_Some cell.0 N.cell (sym in_cell ∙ N.cell_is) in
          found.first other (is_own design own declaration k N.cell
          (own_row row.port row.index other) R reached first (cell.1 ∙ ap Some same)
          (refl, (N.of_net, N.net_is, N.names))),
    )

pub inner_leaf : (design : NetlistRec) (declaration : ℕ) (row : Row)
    → inside design declaration ≡ None → IsInner design declaration (bit_in row) None
inner_leaf design declaration row leaf = λ net N.
    none-some N.cell (sym leaf ∙ N.cell_is)

-- the instance of a row is there
owner_is : (instance : ℕ) (owner : PortOwner) → is_of instance owner ≡ true
    → owner ≡ Inst instance
owner_is instance ExtPort h = absurd cc
owner_is instance (Inst other) h = elim (cases_eq other instance) [
  | inl e ↦ ap Inst e
  | inr n ↦ absurd (grind (arith, nat_tests))
]

port_there : (design : NetlistRec) (own instance port : ℕ) (owner : PortOwner)
    → owner ≡ Inst instance → IsPortOf design own owner port → instance < length design.inst_list
port_there design own instance port ExtPort e h = absurd cc
port_there design own instance port (Inst other) e h =
    let same : other ≡ instance = cc in
    let few : other < length design.inst_list =
    slice_get_within design.inst_list other h.0 h.1 in
    omega arith

named_there : (names : ℕ) (design : NetlistRec) (place : ℕ) (cell : Cell) (row : Row)
    → NetlistFits names design → slice_get design.cell_list place ≡ Some cell
    → IsOuterRow cell row → row.instance < length design.inst_list
named_there names design place cell row F is (net, net_is, named) =
    let C : CellFits names design cell =
    all_at (CellFits names design) design.cell_list place cell F.cells is in
    let N : NetFits names design cell.index net =
    all_at (NetFits names design cell.index) cell.nets row.net net C.nets net_is in
    let at = any_at (λ (named : PortInstance). is_of row.instance named.owner
    && same_bit (bit_of named) (bit_in row)) net.port_insts named in
    let P : PortInstanceFits design cell.index at.1 =
    all_at (PortInstanceFits design cell.index) net.port_insts at.0 at.1 N.named at.2 in
    port_there design cell.index row.instance at.1.port at.1.owner
    (owner_is row.instance at.1.owner (both_parts _ _ at.3).0) P.1

pub row_there : (names : ℕ) (design : NetlistRec) (outer : RowTable) (k : ℕ) (row : Row)
    → NetlistFits names design → AreRowsIn design IsOuterRow outer
    → slice_get outer.rows k ≡ Some row → row.instance < length design.inst_list
row_there names design outer k row F R is =
    let some = R.some_cell k (slice_get_within outer.rows k row is) in
    let place : ℕ = some.1 in
    let cell = gets_at design.cell_list place (first_within design some.0 place some.5) in
    let A = R.each some.0 place some.2 some.3 cell.0 some.4 some.5 cell.1 some.6 some.7 in
    named_there names design place cell.0 row F cell.1
    (A.each (k - some.2) row (part_in outer.rows some.2 some.3 k row some.8 some.9 is))

pub declared_there : (names : ℕ) (design : NetlistRec) (number : ℕ) (inst : CellInstance)
    → NetlistFits names design → slice_get design.inst_list number ≡ Some inst
    → inst.cell < length design.cell_decls
declared_there names design number inst F is =
    (all_at (InstanceFits names design) design.inst_list number inst F.insts is).cell

-- one row more
pub record AreInnerUpTo (design : NetlistRec) (rows : List Row) (inner : List (Option ℕ))
    (place : ℕ) : Type 0 where
  pub many : length inner ≡ place
  pub each : (k : ℕ) (row : Row) (net : Option ℕ) (inst : CellInstance)
      → slice_get rows k ≡ Some row → slice_get inner k ≡ Some net
      → slice_get design.inst_list row.instance ≡ Some inst
      → Reaches design design.top_inst.cell inst.cell
      → IsInner design inst.cell (bit_in row) net

pub inner_none : (design : NetlistRec) (rows : List Row) → AreInnerUpTo design rows [] 0
inner_none design rows = record {
  many = refl;
  each = λ k row net inst a b c d. absurd cc;
}

last_cases : {X : Type 0} → (xs : List X) (y : X) (i : ℕ) (x : X)
    → slice_get (xs ++ y ∷ []) i ≡ Some x
    → (slice_get xs i ≡ Some x) ⊎ ((i ≡ length xs) × (y ≡ x))
last_cases [] y zero x h = inr (refl, cc)
last_cases [] y (suc i) x h = absurd cc
last_cases (z ∷ xs) y zero x h = inl h
last_cases (z ∷ xs) y (suc i) x h = elim (last_cases xs y i x h) [
  | inl w ↦ inl w
  | inr w ↦ inr (ap suc w.0, w.1)
]

pub inner_more : (design : NetlistRec) (rows : List Row) (inner : List (Option ℕ)) (place : ℕ)
    (row : Row) (inst : CellInstance) (net : Option ℕ) → AreInnerUpTo design rows inner place
    → slice_get rows place ≡ Some row → slice_get design.inst_list row.instance ≡ Some inst
    → (Reaches design design.top_inst.cell inst.cell
    → IsInner design inst.cell (bit_in row) net)
    → AreInnerUpTo design rows (inner ++ net ∷ []) (place + 1)
inner_more design rows inner place row inst net A is in_list found =
    let m = A.many in
    let n : length (inner ++ net ∷ []) ≡ length inner + 1 = length_push inner net in
    record {
      many = omega arith;
      each = λ k other o one a b c reached. elim (last_cases inner net k o b) [
        | inl w ↦ A.each k other o one a w c reached
        | inr w ↦
            let at : k ≡ place = w.0 ∙ m in
            let same_row : row ≡ other =
            same_Some row other (sym is ∙ ap (slice_get rows) (sym at) ∙ a) in
            let same_inst : inst ≡ one = same_Some inst one
            (sym in_list ∙ ap (λ (r : Row). slice_get design.inst_list r.instance) same_row ∙ c) in
            let step : Reaches design design.top_inst.cell one.cell
            → IsInner design one.cell (bit_in row) net =
            subst (λ (i : CellInstance). Reaches design design.top_inst.cell i.cell
            → IsInner design i.cell (bit_in row) net) same_inst found in
            subst (λ (r : Row). IsInner design one.cell (bit_in r) o) same_row
            (subst (λ (x : Option ℕ). IsInner design one.cell (bit_in row) x) w.1 (step reached))
      ];
    }

pub inner_all : (design : NetlistRec) (rows : List Row) (inner : List (Option ℕ)) (place : ℕ)
    → AreInnerUpTo design rows inner place → length rows ≤ place → place ≤ length rows
    → AreInner design rows inner
inner_all design rows inner place A past within =
    let m = A.many in
    record {
      many = omega arith;
      each = A.each;
    }
