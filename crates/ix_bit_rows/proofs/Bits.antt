-- The net that names a bit of a cell itself.
use Rattle.std.proofs.Common.{◌≡◌, ℕ, ◌<◌, ◌≤◌, true, false, length, sym, ap, ◌∙◌, subst, Some, arith, inl, inr}
use Rattle.std.specs.Prelude.{◌&&◌, ◌||◌, nat_eq, nat_lt, slice_get}
use Rattle.std.proofs.lemmas.Bool.{cases_lt}
use Rattle.std.proofs.lemmas.Bool.Decides.{nat_tests}
use Rattle.std.proofs.lemmas.Option.{same_Some}
use Rattle.ix_hierarchy.specs.declared.row.Row.{Row}
use Rattle.ix_bit_rows.specs.Table.{IsCut, IsTable, RowTable, IsRowOf, IsNetOf, IsOnNone, own_row, start_in, end_in}
use Rattle.ix_bit_rows.specs.Tests.{is_before, is_row_at}
use Rattle.ix_bit_rows.proofs.Cuts.{goes}

own_is_not_before : (port index : ℕ) → nat_eq 0 0 && (nat_lt port port || (nat_eq port port && nat_lt index index)) ≡ true → ⊥
own_is_not_before port index h = grind (arith, nat_tests)

at_from_order : (port index i p x : ℕ) → nat_eq i 0 && (nat_lt p port || (nat_eq p port && nat_lt x index)) ≡ false
    → i ≤ 0 → (i ≡ 0 → p ≤ port) → (i ≡ 0 → p ≡ port → x ≤ index)
    → nat_eq i 0 && (nat_eq p port && nat_eq x index) ≡ true
at_from_order port index i p x h a b c = grind (arith, nat_tests)

at_parts : (port index i p x : ℕ) → nat_eq i 0 && (nat_eq p port && nat_eq x index) ≡ true → (i ≡ 0) × (p ≡ port) × (x ≡ index)
at_parts port index i p x h = grind (arith, nat_tests)

at_itself : (port index : ℕ) → nat_eq 0 0 && (nat_eq port port && nat_eq index index) ≡ true
at_itself port index = grind (arith, nat_tests)

abbrev pub Cut : (table : RowTable) (cell port index place : ℕ) → Type 0
Cut table cell port index place = IsCut (λ row. is_before port index row ≡ true)
    (λ row. is_before port index row ≡ false) table.rows (start_in table cell) (end_in table cell) place

-- a row of the bit isn't before the place
not_before : (table : RowTable) (cell port index place net : ℕ) → Cut table cell port index place
    → (r : IsRowOf table cell (own_row port index net)) → place ≤ r.place
not_before table cell port index place net cut r = elim (cases_lt r.place place) [
  | inl less ↦ absurd (own_is_not_before port index (cut.before r.place (own_row port index net) r.from less r.row_is))
  | inr more ↦ more
]

pub none_at_end : (table : RowTable) (cell port index place : ℕ) → Cut table cell port index place
    → end_in table cell ≤ place → IsOnNone table cell port index
none_at_end table cell port index place cut past net r =
    let low = not_before table cell port index place net cut r in
    let high : r.place < end_in table cell = r.to in
    absurd (omega arith)

-- a row of the bit is at the place or behind a row of the bit
at_place : (table : RowTable) (cell port index place : ℕ) (row : Row)
    → IsTable table.rows table.starts table.ends → cell < length table.starts
    → Cut table cell port index place → place < end_in table cell
    → slice_get table.rows place ≡ Some row → (net : ℕ) → IsRowOf table cell (own_row port index net)
    → (is_row_at port index row ≡ true) × (row.net ≤ net)
at_place table cell port index place row table_is small cut within is net r =
    elim (cases_lt place r.place) [
      | inl less ↦
          let g = goes row (own_row port index net)
          (table_is.rise cell place r.place row (own_row port index net) small cut.from less r.to is r.row_is) in
          let at : is_row_at port index row ≡ true = at_from_order port index row.instance row.port row.index
          (cut.behind place row (omega arith) within is) g.instance g.port g.index in
          let parts = at_parts port index row.instance row.port row.index at in
          (at, omega (arith, g.net parts.0 parts.1 parts.2))
      | inr more ↦
          let low = not_before table cell port index place net cut r in
          let same_place : r.place ≡ place = omega arith in
          let same : row ≡ own_row port index net =
          same_Some row (own_row port index net) (sym is ∙ ap (slice_get table.rows) (sym same_place) ∙ r.row_is) in (
            subst (λ (x : Row). is_row_at port index x ≡ true) (sym same) (at_itself port index),
            omega (arith, ap (λ (x : Row). x.net) same),
          )
    ]

pub none_at_place : (table : RowTable) (cell port index place : ℕ) (row : Row)
    → IsTable table.rows table.starts table.ends → cell < length table.starts
    → Cut table cell port index place → place < end_in table cell
    → slice_get table.rows place ≡ Some row → is_row_at port index row ≡ false
    → IsOnNone table cell port index
none_at_place table cell port index place row table_is small cut within is not_at net r =
    let found = at_place table cell port index place row table_is small cut within is net r in
    absurd (true_false (sym found.0 ∙ not_at))
  where
    true_false : true ≡ false → ⊥
    true_false e = cc

pub found_at_place : (table : RowTable) (cell port index place : ℕ) (row : Row)
    → IsTable table.rows table.starts table.ends → cell < length table.starts
    → Cut table cell port index place → place < end_in table cell
    → slice_get table.rows place ≡ Some row → is_row_at port index row ≡ true
    → IsNetOf table cell port index row.net
found_at_place table cell port index place row table_is small cut within is at =
    let parts = at_parts port index row.instance row.port row.index at in
    let same : row ≡ own_row port index row.net =
    λ i. record { instance = parts.0 i; port = parts.1 i; index = parts.2 i; net = row.net } in
    record {
      names = record { place = place; from = cut.from; to = within; row_is = is ∙ ap Some same };
      first = λ other r. (at_place table cell port index place row table_is small cut within is other r).1;
    }
